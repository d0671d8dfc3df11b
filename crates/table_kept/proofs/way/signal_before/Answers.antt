use Rattle.std.proofs.Common.{arith}
use Rattle.table_kept.specs.Marks.{next_in}
use Rattle.table_kept.proofs.WayLaws.{from-here, from-later, from-none}
use Rattle.table_kept.proofs.way.signal_before.Goals as goal

pub loop-a-init : goal.loop-a-init
loop-a-init c = λ j i. absurd (omega arith)

pub returns-then-node_to-nodes : goal.returns-then-node_to-nodes
returns-then-node_to-nodes c =
    from-here (next_in c.args.all.now) c.args.nodes c.args.h c.args.x c.loop-a.a c.loop-a.invariant (omega arith) c.at.ensures c.node_to.ensures.0
    c.if-node_to-nodes.true

pub loop-a-preserved : goal.loop-a-preserved
loop-a-preserved c =
    from-later (next_in c.args.all.now) c.args.nodes c.args.h c.args.x c.loop-a.a c.loop-a.invariant c.at.ensures c.node_to.ensures.0 c.if-node_to-nodes.false

pub returns : goal.returns
returns c = from-none (next_in c.args.all.now) c.args.nodes c.args.h c.args.x c.loop-a.a c.loop-a.invariant (omega arith)
