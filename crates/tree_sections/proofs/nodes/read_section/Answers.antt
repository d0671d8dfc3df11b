use native.Mathlib.Omega.{arith}
use mathlib.Core.Path.{sym}
use Rattle.table_sections.proofs.Readings.{passed-on, byte-read}
use Rattle.table_sections.proofs.SectionLaws.{at-most-up}
use Rattle.tree_sections.proofs.TreeReadings.{section-fault, section-more}
use Rattle.tree_sections.proofs.nodes.read_section.Goals as goal

pub read_nodes-requires : goal.read_nodes-requires
read_nodes-requires c = ((byte-read _ _ _ _ _ _ (sym c.in_ok-n.ensures)).high, omega arith)

pub returns-in_err-n-clause-result_after : goal.returns-in_err-n-clause-result_after
returns-in_err-n-clause-result_after c = rw (passed-on c.from_residual.result c.from_residual.ensures) (section-fault _ _ _ _ _ (sym c.in_err-n.ensures))

pub returns-clause-result_after : goal.returns-clause-result_after
returns-clause-result_after c = section-more _ _ _ _ _ (sym c.in_ok-n.ensures) c.read_nodes.ensures.result_after

pub returns-clause-few : goal.returns-clause-few
returns-clause-few c = at-most-up c.read_nodes.result _ _ c.read_nodes.ensures.few (byte-read _ _ _ _ _ _ (sym c.in_ok-n.ensures)).high
