use mathlib.Core.Path.{sym}
use Rattle.table_sections.proofs.Readings.{passed-on, byte-read}
use Rattle.table_sections.proofs.SectionLaws.{categories-fault, categories-more, at-most-up}
use Rattle.table_sections.proofs.categories.read_categories.Goals as goal

pub read_names-requires : goal.read_names-requires
read_names-requires c = (byte-read _ _ _ _ _ _ (sym c.in_ok-n.ensures)).high

pub returns-in_err-n-clause-names_read : goal.returns-in_err-n-clause-names_read
returns-in_err-n-clause-names_read c = rw (passed-on c.from_residual.result c.from_residual.ensures)
    (λ h a l. (categories-fault _ _ _ (sym c.in_err-n.ensures), tt, tt))

pub returns-clause-names_read : goal.returns-clause-names_read
returns-clause-names_read c = λ h a l. let v = c.read_names.ensures.names_read h a l in (categories-more _ _ _ _ (sym c.in_ok-n.ensures) v.0, v.1, v.2)

pub returns-clause-few : goal.returns-clause-few
returns-clause-few c = at-most-up c.read_names.result _ _ c.read_names.ensures.few (byte-read _ _ _ _ _ _ (sym c.in_ok-n.ensures)).high
