use Rattle.std.proofs.Common.{arith}
use Rattle.table_kept.specs.Marks.{next_in}
use Rattle.table_kept.proofs.WayLaws.{to-here, to-later, to_none}
use Rattle.table_kept.proofs.way.node_to.Goals as goal

pub loop-k-init : goal.loop-k-init
loop-k-init c = λ j i. absurd (omega arith)

pub returns-then-target-x : goal.returns-then-target-x
returns-then-target-x c = (
  to-here (next_in c.args.all.now) c.args.nodes c.args.s c.args.x c.loop-k.k c.loop-k.invariant (omega arith) c.target.ensures c.if-target-x.true,
  omega arith,
)

pub loop-k-preserved : goal.loop-k-preserved
loop-k-preserved c = to-later (next_in c.args.all.now) c.args.nodes c.args.s c.args.x c.loop-k.k c.loop-k.invariant c.target.ensures c.if-target-x.false

pub returns : goal.returns
returns c = (to_none (next_in c.args.all.now) c.args.nodes c.args.s c.args.x c.loop-k.k c.loop-k.invariant (omega arith), omega arith)
