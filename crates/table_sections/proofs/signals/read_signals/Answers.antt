use native.Mathlib.Omega.{arith}
use Rattle.base_lists.proofs.Numbers.{one_byte}
use Rattle.table_sections.proofs.Readings.{passed-on}
use Rattle.table_sections.proofs.SectionLaws.{signals-start, signals-more, signals-stop, signals-done}
use Rattle.table_sections.proofs.signals.read_signals.Goals as goal

pub loop-s-init : goal.loop-s-init
loop-s-init c = (omega arith, λ a. a, λ a. signals-start _ _ _ _)

pub returns-in_err-m-clause-result_after : goal.returns-in_err-m-clause-result_after
returns-in_err-m-clause-result_after c = rw (passed-on c.from_residual.result c.from_residual.ensures)
    (λ a. signals-stop _ _ _ _ _ _ _ (c.loop-s.invariant.2 a) _ _ c.loop-s-test.true (c.in_err-m.ensures.result_after (c.loop-s.invariant.1 a)))

pub loop-s-preserved : goal.loop-s-preserved
loop-s-preserved c = let inv = c.loop-s.invariant in
    let k = c.in_ok-m.ensures.few in (
      omega (arith, k.0),
      λ a. k.1 (inv.1 a),
      λ a. signals-more _ _ _ _ _ _ _ (inv.2 a) _ _ _ c.loop-s-test.true (one_byte c.small.ensures (omega arith))
          (c.in_ok-m.ensures.result_after (inv.1 a)),
    )

pub returns-clause-result_after : goal.returns-clause-result_after
returns-clause-result_after c = λ a. signals-done _ _ _ _ _ _ _ (c.loop-s.invariant.2 a) c.loop-s-test.false
