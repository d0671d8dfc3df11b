-- A machine, what makes it right for a table, and the walk.
use Rattle.std.specs.Prelude.{ℕ, ◌<◌, ◌≡◌, Bool, ◌&&◌, ltb, get_or, length}
use Rattle.std.proofs.Math.Option.{Option}
use mathlib.Core.List.{List, [], foldl}
use Rattle.base_lists.specs.Lists.{all_below}
use Rattle.theory_resolution.specs.Table.{Urn, Table}
use Rattle.theory_resolution.specs.Direct.{State, start, step_uri, same_state}
use Rattle.theory_resolution.specs.Nodes.{nodes}
use Rattle.theory_resolution.specs.Symbols.{symbols, symbol_of, symbol_index, step_at}

-- a state of a machine: its pair of signal and statuses, and its row, one target for each symbol
pub record MachineState : Type 0 where
  pub pair : State
  pub row : List ℕ

-- states numbered from 0, in any order, also with repeated pairs and states that nothing reaches
abbrev pub Machine : Type 0
Machine = List MachineState

-- a state for numbers that have none
abbrev pub blank : MachineState
blank = record { pair = record { signal = 0; status = [] }; row = [] }

-- the state with number j
abbrev pub machine_state : Machine → ℕ → MachineState
machine_state m j = get_or m j blank

-- the target of state j for symbol k
abbrev pub target : Machine → ℕ → ℕ → ℕ
target m j k = get_or (machine_state m j).row k 0

-- a right machine begins at the start, and each target in it is a state with the pair that is due
pub record Accepted (t : Table) (m : Machine) : Type 0 where
  pub some-state : 0 < length m
  pub begins : (machine_state m 0).pair ≡ start t.cats
  pub leads : (j k : ℕ) → j < length m → k < length (symbols t) → target m j k < length m
  pub right : (j k : ℕ) → j < length m → k < length (symbols t)
      → (machine_state m (target m j k)).pair ≡ step_at t (machine_state m j).pair k

-- the same as a test: the target of state j for symbol k has the right pair
abbrev pub target_right : Table → Machine → ℕ → ℕ → Bool
target_right t m j k = ltb (target m j k) (length m) && same_state (machine_state m (target m j k)).pair (step_at t (machine_state m j).pair k)

-- the row of state j is right
abbrev pub row_right : Table → Machine → ℕ → Bool
row_right t m j = all_below (length (symbols t)) (target_right t m j)

-- the test of the machine
abbrev pub accepts : Table → Machine → Bool
accepts t m = ltb 0 (length m) && (same_state (machine_state m 0).pair (start t.cats) && all_below (length m) (row_right t m))

-- a used URN leads to what the row of the present state has at its symbol
abbrev pub walk_step : Table → Machine → ℕ → Urn → ℕ
walk_step t m j u = target m j (symbol_index (symbol_of (nodes t) u) (symbols t))

-- the walk over a list of URIs, used and skipped, from state 0
abbrev pub walk : Table → Machine → List (Option Urn) → ℕ
walk t m l = foldl (step_uri (walk_step t m)) 0 l

-- the signal of state j
abbrev pub signal_at : Machine → ℕ → ℕ
signal_at m j = (machine_state m j).pair.signal
