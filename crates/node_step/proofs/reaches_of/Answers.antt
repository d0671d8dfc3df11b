use native.Mathlib.Omega.{arith}
use Prim.Native.Nat.{◌+◌, ◌-◌}
use Rattle.node_step.proofs.StepLaws.{reach-hit, reach-root, reach-more, reach-end}
use Rattle.node_step.proofs.reaches_of.Goals as goal

pub returns-then-p-q : goal.returns-then-p-q
returns-then-p-q c = reach-hit _ _ _ (9 - (c.loop.counter + 1)) _ c.loop.invariant (omega arith) c.if-p-q.true

pub returns-then-p-eq0 : goal.returns-then-p-eq0
returns-then-p-eq0 c = reach-root _ _ _ (9 - (c.loop.counter + 1)) _ c.loop.invariant (omega arith) c.if-p-q.false c.if-p-eq0.true

pub loop-preserved : goal.loop-preserved
loop-preserved c = reach-more _ _ _ _ _ c.loop.invariant (omega arith) c.if-p-q.false c.if-p-eq0.false c.parent-p.ensures

pub returns : goal.returns
returns c = reach-end _ _ _ _ c.loop.invariant (omega arith)
