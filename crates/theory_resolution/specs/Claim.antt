-- What holds of the walk of a right machine over whole lists of URIs, used and skipped, of any length, also empty.
use Rattle.std.specs.Prelude.{ℕ, ◌≤◌, ◌≡◌, List, ◌++◌}
use Rattle.std.proofs.Math.Option.{Option}
use Rattle.theory_resolution.specs.Names.{Parts}
use Rattle.theory_resolution.specs.Table.{Urn, Table, most_parts}
use Rattle.theory_resolution.specs.Direct.{direct, used_of, step_uri, changes}
use Rattle.theory_resolution.specs.Says.{Says, Given}
use Rattle.theory_resolution.specs.Machine.{Machine, walk_step, walk, signal_at}

-- the claim at the point between before and after
pub record Claim (t : Table) (m : Machine) (before after : List (Option Urn)) : Type 0 where
  -- the walk has direct resolution's signal
  pub agrees : signal_at m (walk t m before) ≡ (direct t (used_of before)).signal
  -- it says only given URNs or their ancestors
  pub only-given : (c : ℕ) (p : Parts) → Says t (signal_at m (walk t m before)) c p → Given (used_of before) c p
  -- what it said it still says
  pub still-says : (c : ℕ) (p : Parts) → Says t (signal_at m (walk t m before)) c p → Says t (signal_at m (walk t m (before ++ after))) c p
  -- it changes at most as often as the largest number of parts in one signal
  pub few-changes : changes (signal_at m) (step_uri (walk_step t m)) 0 (before ++ after) ≤ most_parts t.signals
