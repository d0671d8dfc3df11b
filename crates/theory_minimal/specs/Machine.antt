-- A machine by the numbers of its states and symbols, and when two of its states are equivalent.
use Rattle.std.specs.Prelude.{ℕ, ◌<◌, ◌≡◌}
use mathlib.Core.List.{List, foldl, Memᴰ}
use Rattle.theory_resolution.specs.Discovery.{Reached}

-- states and symbols numbered from 0; each state has a signal and for each symbol a target
pub record Machine : Type 0 where
  pub states : ℕ
  pub symbols : ℕ
  pub signal : ℕ → ℕ
  pub target : ℕ → ℕ → ℕ

-- state 0 is there, and every target is a state
pub record Formed (m : Machine) : Type 0 where
  pub some-state : 0 < m.states
  pub leads : (j k : ℕ) → j < m.states → k < m.symbols → m.target j k < m.states

-- a sequence of the machine's symbols
abbrev pub Sequence : Machine → List ℕ → Type 0
Sequence m w = (k : ℕ) → Memᴰ k w → k < m.symbols

-- the state that a sequence leads to from state j
abbrev pub run : Machine → ℕ → List ℕ → ℕ
run m j w = foldl m.target j w

-- the signal that a sequence gives from state j
abbrev pub signal_after : Machine → ℕ → List ℕ → ℕ
signal_after m j w = m.signal (run m j w)

-- states i and j are equivalent: every sequence gives the same signal from both
abbrev pub Alike : Machine → ℕ → ℕ → Type 0
Alike m i j = (w : List ℕ) → Sequence m w → signal_after m i w ≡ signal_after m j w

-- some sequence leads from state 0 to state j
abbrev pub Reachable : Machine → ℕ → Type 0
Reachable m j = Reached m.target m.symbols 0 j
