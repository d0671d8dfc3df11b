-- The small image of a machine: the image's layout without the categories' bytes, so wherever machine_image asks for a
-- number of categories it is 0 here. Which bytes it is, which bytes are of its form, and how they are walked.
use Rattle.std.specs.Prelude.{ℕ, zero, suc, ◌/◌, ◌%◌, Bool, List, [], ◌∷◌, ◌++◌, length}
use Rattle.std.proofs.Math.Option.{Option}
use Rattle.base_lists.specs.Lists.{tabulate}
use Rattle.theory_resolution.specs.Table.{Urn, Table}
use Rattle.theory_resolution.specs.Symbols.{symbols}
use Rattle.machine_image.specs.Image.{stored_symbols}
use Rattle.machine_image.specs.Refusals.{form_over}
use Rattle.theory_minimal.specs.Machine.{Machine}
use Rattle.machine_image.specs.Walk.{step_over, walk_over, signal_over}

-- a state: its signal and its row, one target for each symbol
abbrev pub small_bytes : Machine → ℕ → List ℕ
small_bytes m c = m.signal c ∷ tabulate (m.target c) m.symbols

-- the states below n
unfoldable pub small_states : Machine → ℕ → List ℕ
small_states m zero = []
small_states m (suc n) = small_states m n ++ small_bytes m n

-- the symbol count, the symbols, the state count (low byte first), and the states
unfoldable pub small_image : Table → Machine → List ℕ
small_image T m = length (symbols T) ∷ stored_symbols T ++ m.states % 256 ∷ m.states / 256 ∷ [] ++ small_states m m.states

-- long enough to hold its two counts, of the length that they give, with the table's symbols, and with 1 to 256 states,
-- each with a signal of the table and with states as targets
abbrev pub small_form : Table → List ℕ → Bool
small_form T im = form_over 0 T im

-- a used URN leads to what the row of the present state has at its symbol
abbrev pub small_step : Table → List ℕ → ℕ → Urn → ℕ
small_step T im = step_over 0 T im

-- the state after a list of URIs, from state 0; a skipped one changes nothing
abbrev pub small_walk : Table → List ℕ → List (Option Urn) → ℕ
small_walk T im = walk_over 0 T im

-- the signal of the state that the walk is in
abbrev pub small_signal : Table → List ℕ → List (Option Urn) → ℕ
small_signal T im = signal_over 0 T im
