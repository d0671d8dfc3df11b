use mathlib.Core.Path.{◌≡◌}
use Prim.Native.Nat.{◌-◌}
use lib.ListN.{length}
use Rattle.value_cursor.specs.Parts.{ending_at}
use Rattle.value_cursor.proofs.cursor.Cursor.ending.Given as goal

abbrev pub invariant-loop-n : goal.invariant-loop-n
invariant-loop-n l = ending_at l.s l.initial.c.at ≡ ending_at l.s l.c.at

abbrev pub decreases-loop-n : goal.decreases-loop-n
decreases-loop-n l = length l.s - l.c.at
