use Prim.Native.Nat.{◌+◌, ◌-◌, ◌^◌, ◌<◌}
use mathlib.Core.Path.{◌≡◌}
use Rattle.base_lists.specs.Numbers.{word_of}
use Rattle.machine_check.proofs.image.packed_at.Given as goal

abbrev pub invariant-loop-c : goal.invariant-loop-c
invariant-loop-c l = (l.x < 256 ^ (l.n - l.c)) × (l.x ≡ word_of l.im (l.i + l.c) (l.n - l.c))
