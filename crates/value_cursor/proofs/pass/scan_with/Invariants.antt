use mathlib.Core.Path.{◌≡◌}
use Prim.Native.Nat.{◌-◌, ◌≤◌}
use lib.ListN.{length}
use Rattle.value_cursor.specs.Reading.{reading_from}
use Rattle.value_cursor.specs.Pass.{summary, scan_of}
use Rattle.value_cursor.proofs.pass.scan_with.Given as goal

abbrev pub invariant-loop-found : goal.invariant-loop-found
invariant-loop-found l = (scan_of l.v l.k ≡ summary l.k l.t (reading_from l.v l.c.at)) × (l.t.entries ≤ l.c.at) × (l.c.at ≤ length l.v)

abbrev pub decreases-loop-found : goal.decreases-loop-found
decreases-loop-found l = length l.v - l.c.at
