use native.Mathlib.Omega.{arith}
use Prim.Native.Nat.{◌+◌, ◌-◌}
use Rattle.node_step.proofs.StepLaws.{seek_hit, seek_stop, seek-more, seek-end}
use Rattle.node_step.proofs.seek_from.Goals as goal

pub returns-in-Some : goal.returns-in-Some
returns-in-Some c = seek_hit _ _ _ _ _ _ _ _ (9 - (c.loop.counter + 1)) _ c.find_signal.ensures _ c.put_at-key.ensures c.loop.invariant (omega arith) _ c.in-Some.is

pub returns-then-p-q : goal.returns-then-p-q
returns-then-p-q c = seek_stop _ _ _ _ _ _ _ _ (9 - (c.loop.counter + 1)) _ c.find_signal.ensures _ c.put_at-key.ensures c.loop.invariant (omega arith) c.in_default.is c.if-p-q.true

pub loop-preserved : goal.loop-preserved
loop-preserved c = seek-more _ _ _ _ _ _ _ _ _ _ c.find_signal.ensures _ c.put_at-key.ensures c.loop.invariant (omega arith) c.in_default.is c.if-p-q.false c.parent-p.ensures

pub returns : goal.returns
returns c = seek-end _ _ _ _ _ _ _ _ _ c.loop.invariant (omega arith)
