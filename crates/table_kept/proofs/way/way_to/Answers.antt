use Rattle.std.proofs.Common.{List, ℕ, subst, sym, arith}
use Rattle.table_kept.specs.Marks.{next_in}
use Rattle.table_kept.specs.Held.{signals_in, nodes_in}
use Rattle.table_kept.proofs.WayLaws.{Passed, passed_none, passed-more, passed-all, passed-end}
use Rattle.table_kept.proofs.way.way_to.Goals as goal

pub loop-left-init : goal.loop-left-init
loop-left-init c = let next = next_in c.args.all.now in let l = signals_in c.args.h in (
  omega (arith, c.none-way.ensures.0),
  subst (λ (ns : List ℕ). Passed next c.args.nodes l c.args.j c.args.j c.args.j ns) (sym c.none-way.ensures.1) (passed_none next c.args.nodes l c.args.j),
)

pub loop-left-preserved : goal.loop-left-preserved
loop-left-preserved c = (
  omega (arith, c.loop-left.invariant.0, c.step_back.ensures.1),
  passed-more (next_in c.args.all.now) c.args.nodes (signals_in c.args.h) c.args.j c.loop-left.left c.loop-left.at
      (nodes_in c.loop-left.way) c.loop-left.invariant.1 c.loop-left-test.true c.if-at-ne0.true c.step_back.ensures.0 c.step_back.ensures.2,
)

pub returns-else-at-ne0 : goal.returns-else-at-ne0
returns-else-at-ne0 c = (
  omega (arith, c.loop-left.invariant.0),
  passed-all (next_in c.args.all.now) c.args.nodes (signals_in c.args.h) c.args.j c.loop-left.left c.loop-left.at
      (nodes_in c.loop-left.way) c.loop-left.invariant.1 c.if-at-ne0.false,
)

pub returns-after-loop-left : goal.returns-after-loop-left
returns-after-loop-left c = (
  omega (arith, c.loop-left.invariant.0),
  passed-end (next_in c.args.all.now) c.args.nodes (signals_in c.args.h) c.args.j c.loop-left.left c.loop-left.at
      (nodes_in c.loop-left.way) c.loop-left.invariant.1 c.loop-left-test.false,
)
