use Prim.Native.Nat.{◌+◌, ◌-◌}
use mathlib.Core.Path.{◌≡◌}
use mathlib.Core.List.{map}
use lib.ListN.{drop}
use Rattle.base_text.specs.Text.{common}
use Rattle.base_text.proofs.compare.common_taken.Given as goal

abbrev pub invariant-loop-i : goal.invariant-loop-i
invariant-loop-i g l =
    let w = map g.T.Taking.taken l.w in l.from + common (drop l.from l.p) (drop l.from w) ≡ l.i + common (drop l.i l.p) (drop l.i w)

abbrev pub decreases-loop-i : goal.decreases-loop-i
decreases-loop-i g l = l.n - l.i
