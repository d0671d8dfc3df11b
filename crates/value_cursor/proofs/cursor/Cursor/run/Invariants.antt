use mathlib.Core.Path.{◌≡◌}
use Prim.Native.Nat.{◌-◌}
use lib.ListN.{length}
use Rattle.value_cursor.specs.Bytes.{in_class}
use Rattle.value_cursor.specs.Walk.{run_at}
use Rattle.value_cursor.proofs.cursor.Cursor.run.Given as goal

abbrev pub invariant-loop-c : goal.invariant-loop-c
invariant-loop-c l = run_at (in_class l.class) l.s l.initial.c.at ≡ run_at (in_class l.class) l.s l.c.at

abbrev pub decreases-loop-c : goal.decreases-loop-c
decreases-loop-c l = length l.s - l.c.at
