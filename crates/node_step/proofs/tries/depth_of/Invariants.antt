use Prim.Native.Nat.{◌+◌, ◌-◌}
use mathlib.Core.Path.{◌≡◌}
use Rattle.node_step.specs.Tries.{depth}
use Rattle.node_step.proofs.tries.depth_of.Given as goal

abbrev pub invariant-loop-n : goal.invariant-loop-n
invariant-loop-n l = depth l.parents 9 l.d ≡ l.n + depth l.parents (9 - l.n) l.p
