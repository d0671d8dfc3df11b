use Rattle.base_numbers.specs.Refusals.{refusal_number}
use Rattle.table_sections.proofs.Readings.{passed-on}
use Rattle.table_sections.proofs.SectionLaws.{sections-long, first-fault, both_read}
use Rattle.table_sections.proofs.read.Goals as goal

pub returns-then-t-gt-MOST_TABLE_BYTES : goal.returns-then-t-gt-MOST_TABLE_BYTES
unfolding refusal_number
returns-then-t-gt-MOST_TABLE_BYTES c = λ a l r. sections-long _ c.if-t-gt-MOST_TABLE_BYTES.true

pub returns-in_err-n : goal.returns-in_err-n
returns-in_err-n c = rw (passed-on c.from_residual.result c.from_residual.ensures)
    (λ a l r. first-fault _ _ c.if-t-gt-MOST_TABLE_BYTES.false (c.in_err-n.ensures.names_read c.if-t-gt-MOST_TABLE_BYTES.false a l).0)

pub returns : goal.returns
returns c = λ a l r. both_read _ c.if-t-gt-MOST_TABLE_BYTES.false _ _ _ _ (c.in_ok-n.ensures.names_read c.if-t-gt-MOST_TABLE_BYTES.false a l)
    c.in_ok-n.ensures.few _ _ _ c.read_rest.result (c.read_rest.ensures.read_from r) c.read_rest.ensures.names
