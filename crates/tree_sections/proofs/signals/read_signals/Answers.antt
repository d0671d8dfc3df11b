use native.Mathlib.Omega.{arith}
use Rattle.base_lists.proofs.Numbers.{one_byte}
use Rattle.table_sections.proofs.Readings.{passed-on}
use Rattle.table_sections.proofs.SectionLaws.{signals-start, signals-more, signals-stop, signals-done}
use Rattle.tree_sections.proofs.signals.read_signals.Goals as goal

pub loop-s-init : goal.loop-s-init
loop-s-init c = (omega arith, signals-start _ _ _ _)

pub returns-in_err-m-clause-result_after : goal.returns-in_err-m-clause-result_after
returns-in_err-m-clause-result_after c = rw (passed-on c.from_residual.result c.from_residual.ensures)
    (signals-stop _ _ _ _ _ _ _ c.loop-s.invariant.1 _ _ c.loop-s-test.true c.in_err-m.ensures.result_after)

pub loop-s-preserved : goal.loop-s-preserved
loop-s-preserved c = (
  omega (arith, c.in_ok-m.ensures.few),
  signals-more _ _ _ _ _ _ _ c.loop-s.invariant.1 _ _ _ c.loop-s-test.true (one_byte c.small.ensures (omega arith)) c.in_ok-m.ensures.result_after,
)

pub returns-clause-result_after : goal.returns-clause-result_after
returns-clause-result_after c = signals-done _ _ _ _ _ _ _ c.loop-s.invariant.1 c.loop-s-test.false
