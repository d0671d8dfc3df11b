use native.Mathlib.Omega.{arith}
use mathlib.Core.Path.{sym}
use Rattle.base_numbers.specs.Refusals.{refusal_number}
use Rattle.table_sections.proofs.Readings.{passed-on, byte-read, text-fault, text-good, text-short}
use Rattle.table_sections.proofs.bytes.read_text.Goals as goal

pub returns-in_err-n-clause-result_value : goal.returns-in_err-n-clause-result_value
returns-in_err-n-clause-result_value c = rw (passed-on c.from_residual.result c.from_residual.ensures) (text-fault _ _ _ _ (sym c.in_err-n.ensures))

pub overflow_sub-t : goal.overflow_sub-t
overflow_sub-t c = let b = byte-read _ _ _ _ _ _ (sym c.in_ok-n.ensures) in omega (arith, b.next, b.here)

pub returns-then-n-t-clause-result_value : goal.returns-then-n-t-clause-result_value
returns-then-n-t-clause-result_value c = text-good _ _ _ _ _ (sym c.in_ok-n.ensures) c.if-n-t.true

pub returns-then-n-t-clause-inside : goal.returns-then-n-t-clause-inside
returns-then-n-t-clause-inside c = let b = byte-read _ _ _ _ _ _ (sym c.in_ok-n.ensures) in (b.high, omega arith, omega (arith, b.next, b.here))

pub returns-else-n-t-clause-result_value : goal.returns-else-n-t-clause-result_value
unfolding refusal_number
returns-else-n-t-clause-result_value c = text-short _ _ _ _ _ (sym c.in_ok-n.ensures) c.if-n-t.false
