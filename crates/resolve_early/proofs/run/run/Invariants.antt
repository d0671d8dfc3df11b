use mathlib.Core.Path.{◌≡◌}
use Prim.Native.Nat.{◌≤◌, ◌-◌}
use lib.ListN.{length}
use Rattle.base_numbers.specs.Numbers.{most_entries}
use Rattle.resolve_early.specs.Run.{settled_in, run_from}
use Rattle.resolve_early.proofs.run.run.Given as goal

abbrev pub invariant-loop-ends : goal.invariant-loop-ends
invariant-loop-ends l = (run_from l.t l.d l.v (record { signal = 0; statuses = 0 }) 0 0 ≡ run_from l.t l.d l.v l.st l.n l.at)
    × (l.ends ≡ settled_in l.d l.st) × (l.n ≤ most_entries) × (l.at ≤ length l.v)

abbrev pub decreases-loop-ends : goal.decreases-loop-ends
decreases-loop-ends l = length l.v - l.at
