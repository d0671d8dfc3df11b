-- What holds of every build and of every image that the checker accepts.
use Rattle.std.specs.Prelude.{ℕ, ◌-◌, ◌*◌, ◌≤◌, ◌<◌, ◌≡◌, ◌↔◌, List, ◌++◌, length, take, drop, replicate}
use Rattle.base_numbers.specs.Numbers.{most_states}
use Rattle.base_bytes.specs.Built.{accepted}
use Rattle.theory_resolution.specs.Table.{Table, place}
use Rattle.theory_resolution.specs.Machine.{Accepted}
use Rattle.theory_resolution.specs.Build.{ReachableOver}
use Rattle.table_decode.specs.Tables.{table_of, table_refusal}
use Rattle.machine_image.specs.Image.{stored_symbols, machine_image, symbol_count, state_count, place_of, signal_in, byte_in, target_in, machine_in}
use Rattle.machine_image.specs.Positions.{ByteOf}
use Rattle.machine_library.specs.Built.{built_from, buffer_from, check_from}

-- over 256 states can be reached
abbrev pub TooManyStates : List ℕ → Type 0
TooManyStates t = ReachableOver (table_of t) most_states

-- the builder's own numbers, both ways: too many states first, then too little room
pub record BuildExactly (t : List ℕ) (room : ℕ) : Type 0 where
  pub thirteen : ((built_from t room).refusal ≡ 13) ↔ ((table_refusal t ≡ 0) × TooManyStates t)
  pub fourteen : ((built_from t room).refusal ≡ 14) ↔ ((table_refusal t ≡ 0) × (TooManyStates t → ⊥) × (room < length (machine_image (table_of t))))

-- of a well-formed table with at most 256 reachable states
pub record Builds (t : List ℕ) : Type 0 where
  -- its machine's image is no longer than 35,459 bytes
  pub short : length (machine_image (table_of t)) ≤ 35459
  -- wherever there is room for it the build succeeds, and leaves the image and zeros after it
  pub built : (room : ℕ) → length (machine_image (table_of t)) ≤ room → built_from t room ≡ accepted (length (machine_image (table_of t)))
  pub written : (room : ℕ) → length (machine_image (table_of t)) ≤ room
      → buffer_from t room ≡ machine_image (table_of t) ++ replicate (room - length (machine_image (table_of t))) 0
  -- the checker accepts it
  pub checked : check_from t (machine_image (table_of t)) ≡ 0

-- of a refused build: its length is 0, and the buffer is all zero
pub record RefusedBuild (t : List ℕ) (room : ℕ) : Type 0 where
  pub no_length : (built_from t room).len ≡ 0
  pub cleared : buffer_from t room ≡ replicate room 0

-- an image of the right form for a table
pub record RightForm (T : Table) (im : List ℕ) : Type 0 where
  -- it is as long as its two counts give, its symbols are the table's, and it has 1 to 256 states
  pub length-right : length im ≡ place_of T.cats im (state_count im)
  pub symbols-right : take (3 * symbol_count im) (drop 1 im) ≡ stored_symbols T
  pub some-state : 1 ≤ state_count im
  pub few-states : state_count im ≤ most_states
  -- every state's signal is in the table, each category's byte is one that it can have at the signal's place, and every target is a state
  pub signal-listed : (j : ℕ) → j < state_count im → signal_in T.cats im j < length T.signals
  pub status-right : (j c : ℕ) → j < state_count im → c < T.cats → ByteOf T c (place T (signal_in T.cats im j) c) (byte_in T.cats im j c)
  pub leads : (j k : ℕ) → j < state_count im → k < symbol_count im → target_in T.cats im j k < state_count im

-- the table is well-formed, and the image is right for it: its form, its start and all its rows
pub record RightImage (t im : List ℕ) : Type 0 where
  pub well-formed : table_refusal t ≡ 0
  pub form : RightForm (table_of t) im
  pub right : Accepted (table_of t) (machine_in (table_of t) im)

-- what is proved
abbrev pub BuildsClaim : Type 0
BuildsClaim = (t : List ℕ) → table_refusal t ≡ 0 → (TooManyStates t → ⊥) → Builds t

abbrev pub RefusedClaim : Type 0
RefusedClaim = (t : List ℕ) (room : ℕ) → ((built_from t room).refusal ≡ 0 → ⊥) → RefusedBuild t room

abbrev pub ExactlyClaim : Type 0
ExactlyClaim = (t : List ℕ) (room : ℕ) → BuildExactly t room

abbrev pub CheckedClaim : Type 0
CheckedClaim = (t im : List ℕ) → (check_from t im ≡ 0) ↔ RightImage t im
