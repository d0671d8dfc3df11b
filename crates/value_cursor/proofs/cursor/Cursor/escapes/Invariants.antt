use mathlib.Core.Path.{◌≡◌}
use Prim.Native.Nat.{◌-◌, ◌≤◌}
use lib.ListN.{length}
use Rattle.value_cursor.specs.Parts.{quoted_from}
use Rattle.value_cursor.proofs.cursor.Cursor.escapes.Given as goal

abbrev pub invariant-loop-c : goal.invariant-loop-c
invariant-loop-c l = (quoted_from l.s l.initial.c.at ≡ quoted_from l.s l.c.at) × (l.initial.c.at ≤ l.c.at)

abbrev pub decreases-loop-c : goal.decreases-loop-c
decreases-loop-c l = length l.s - l.c.at
