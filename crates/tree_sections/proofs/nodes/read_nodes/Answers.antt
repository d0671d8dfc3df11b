use native.Mathlib.Omega.{arith}
use Prim.Native.Nat.{◌<◌}
use mathlib.Core.Path.{sym}
use lib.ListN.{length}
use Rattle.base_lists.proofs.Numbers.{one_byte, two_bytes}
use Rattle.table_sections.proofs.Readings.{passed-on, run-start, run_more, run-stop, run-ends}
use Rattle.tree_sections.proofs.TreeReadings.{node-keep, node-put}
use Rattle.tree_sections.proofs.nodes.read_nodes.Goals as goal

pub loop-i-init : goal.loop-i-init
loop-i-init c = run-start _ _ _ _

pub returns-in_err-x-clause-result_after : goal.returns-in_err-x-clause-result_after
returns-in_err-x-clause-result_after c = rw (passed-on c.from_residual.result c.from_residual.ensures)
    (run-stop _ _ _ _ _ _ _ c.loop-i.invariant _ c.loop-i-test.true (sym c.in_err-x.ensures.result_value))

pub loop-i-preserved : goal.loop-i-preserved
loop-i-preserved c = let i = c.loop-i.i in
    let h : i < length c.loop-i.category = omega arith in
    let k : i < length c.loop-i.parent = omega arith in
    let l : i < length c.loop-i.at = omega arith in
    let o : i < length c.loop-i.len = omega arith in
    let b = c.in_ok-x.ensures.inside in
    run_more _ _ _ _ _ _ _ c.loop-i.invariant _ _ _ c.loop-i-test.true (sym c.in_ok-x.ensures.result_value)
    (λ j g. node-keep _ c.loop-i.category c.loop-i.parent c.loop-i.at c.loop-i.len i _ _ _ _ j g)
    (node-put _ c.loop-i.category c.loop-i.parent c.loop-i.at c.loop-i.len i _ _ _ _ _ (two_bytes c.short.ensures (omega (arith, b.2)))
    (one_byte c.small.ensures (omega (arith, b.0))) h k l o)

pub returns-clause-result_after : goal.returns-clause-result_after
returns-clause-result_after c = run-ends _ _ _ _ _ _ _ c.loop-i.invariant (omega arith)
