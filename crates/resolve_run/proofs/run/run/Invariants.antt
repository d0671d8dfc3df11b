use mathlib.Core.Path.{◌≡◌}
use Prim.Native.Nat.{◌+◌, ◌-◌, ◌*◌, ◌≤◌}
use lib.ListN.{length}
use Rattle.value_cursor.specs.Reading.{reading_from}
use Rattle.resolve_run.specs.Run.{after, over, run_from, tries_of}
use Rattle.resolve_run.proofs.run.run.Given as goal

abbrev pub invariant-loop-e : goal.invariant-loop-e
invariant-loop-e l = (run_from l.t l.d l.v l.from 0 ≡ over l.v (after l.t l.d) l.p (reading_from l.v l.at))
    × (l.p.used + l.p.skipped ≤ l.at) × (l.at ≤ length l.v) × (tries_of l.p.current ≤ 10 * l.p.used)

abbrev pub decreases-loop-e : goal.decreases-loop-e
decreases-loop-e l = length l.v - l.at
