use mathlib.Core.Path.{◌≡◌}
use Prim.Native.Nat.{◌-◌}
use lib.ListN.{length}
use Rattle.value_cursor.specs.Parts.{quoted_from}
use Rattle.value_cursor.proofs.cursor.Cursor.quoted.Given as goal

abbrev pub invariant-loop-n : goal.invariant-loop-n
invariant-loop-n l = quoted_from l.s l.initial.c.at ≡ quoted_from l.s l.c.at

abbrev pub decreases-loop-n : goal.decreases-loop-n
decreases-loop-n l = length l.s - l.c.at
