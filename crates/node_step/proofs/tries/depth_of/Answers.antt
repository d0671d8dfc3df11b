use Rattle.node_step.proofs.TriesLaws.{depth-more}
use Rattle.node_step.proofs.tries.depth_of.Goals as goal

pub loop-n-preserved : goal.loop-n-preserved
loop-n-preserved c = depth-more _ _ _ _ c.loop-n.invariant c.loop-n-test.true c.if-p-eq0.false c.parent-p.ensures
