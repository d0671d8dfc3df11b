use native.Mathlib.Omega.{arith}
use mathlib.Core.Path.{sym}
use Rattle.table_sections.proofs.Readings.{passed-on, byte-read}
use Rattle.table_sections.proofs.SectionLaws.{at_most}
use Rattle.tree_sections.proofs.TreeReadings.{counted-fault, counted-more}
use Rattle.tree_sections.proofs.signals.read_signal.Goals as goal

pub overflow_add-start : goal.overflow_add-start
overflow_add-start c = omega (arith, (byte-read _ _ _ _ _ _ (sym c.in_ok-k.ensures)).high)

pub read_numbers-requires : goal.read_numbers-requires
read_numbers-requires c = (omega arith, omega (arith, (byte-read _ _ _ _ _ _ (sym c.in_ok-k.ensures)).high))

pub returns-in_err-k-clause-result_after : goal.returns-in_err-k-clause-result_after
returns-in_err-k-clause-result_after c = rw (passed-on c.from_residual.result c.from_residual.ensures) (counted-fault _ _ _ _ _ _ (sym c.in_err-k.ensures))

pub returns-clause-result_after : goal.returns-clause-result_after
returns-clause-result_after c = counted-more _ _ _ _ _ _ c.args.start (sym c.in_ok-k.ensures) c.read_numbers.ensures.result_after

pub returns-clause-few : goal.returns-clause-few
returns-clause-few c = at_most c.read_numbers.result c.args.start _ _ c.read_numbers.ensures.few (byte-read _ _ _ _ _ _ (sym c.in_ok-k.ensures)).high
