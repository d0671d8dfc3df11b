-- What is carried between the values of one message: a state of direct resolution as bytes, and how many values there were.
use Rattle.std.specs.Prelude.{ℕ, zero, suc, ◌+◌, ◌≤◌, ◌<◌, ◌≡◌, ◌↔◌, Bool, true, cond, ◌&&◌, List, [], ◌∷◌, ◌++◌, eqb, leb, ltb, length, get_or, replicate}
use Rattle.base_numbers.specs.Numbers.{most_categories, most_values}
use Rattle.base_lists.specs.Lists.{tabulate, all_below}
use Rattle.theory_resolution.specs.Table.{Table, place}
use Rattle.theory_resolution.specs.Nodes.{nodes}
use Rattle.theory_resolution.specs.Direct.{Status, Open, State, StateOf}
use Rattle.machine_image.specs.Image.{status_byte, status_of}
use Rattle.machine_image.specs.Refusals.{byte_fits}
use Rattle.machine_image.specs.Positions.{ByteOf}
use Rattle.resolve_record.specs.declared.Carried.{Carried}

-- before the first value: signal 0, every category open, no value
abbrev pub fresh : Carried
fresh = record { signal = 0; status = replicate most_categories 0; values = 0 }

-- a status is a byte as in the image of a machine: that of category c in a record, and in a state; 0 for a category that the
-- table lacks
abbrev pub status_in : Table → Carried → ℕ → Status
status_in T r c = status_of (nodes T) (get_or r.status c 0)

abbrev pub byte_in : Table → State → ℕ → ℕ
byte_in T st c = status_byte (nodes T) c (get_or st.status c Open)

-- the state of direct resolution that a record carries, and a state as it is carried after n values
abbrev pub state_in : Table → Carried → State
state_in T r = record { signal = r.signal; status = tabulate (status_in T r) T.cats }

abbrev pub carried_as : Table → State → ℕ → Carried
carried_as T st n = record { signal = st.signal; status = tabulate (byte_in T st) most_categories; values = n }

-- a state of the table comes back as it was carried
abbrev pub CarriedBack : Type 0
CarriedBack = (T : Table) (st : State) (n : ℕ) → T.cats ≤ most_categories → StateOf T st → state_in T (carried_as T st n) ≡ st

-- category c, if it is one of the table, has a byte that it can have in an image at its signal's place, else 0
abbrev pub status_fits : Table → Carried → ℕ → Bool
status_fits T r c = cond (ltb c T.cats) (byte_fits (nodes T) c (place T r.signal c) (get_or r.status c 0)) (eqb (get_or r.status c 0) 0)

-- unless 28: a signal of the table, at most 16 values, and statuses that fit
unfoldable pub carried_fits : Table → Carried → Bool
carried_fits T r = ltb r.signal (length T.signals) && (leb r.values most_values && all_below (length r.status) (status_fits T r))

-- that test, in words
pub record Fitting (T : Table) (r : Carried) : Type 0 where
  -- it names a signal of the table
  pub signal : r.signal < length T.signals
  -- it says at most 16 values
  pub values : r.values ≤ most_values
  -- every category of the table is open, shut, or held at a node of it that has nodes under it and lies beyond its place
  pub known : (c : ℕ) → c < T.cats → ByteOf T c (place T r.signal c) (get_or r.status c 0)
  -- no category that the table lacks is shut or held
  pub lacking : (c : ℕ) → T.cats ≤ c → get_or r.status c 0 ≡ 0

abbrev pub FitsExactly : Type 0
FitsExactly = (T : Table) (r : Carried) → carried_fits T r ≡ true ↔ Fitting T r

-- one value more, and nothing else
abbrev pub counted : Carried → Carried
counted r = record { signal = r.signal; status = r.status; values = r.values + 1 }

-- a record for C: the signal, a byte for each of 8 categories, and the values
abbrev pub bytes_from : List ℕ → ℕ → ℕ → List ℕ
bytes_from b at zero = []
bytes_from b at (suc n) = get_or b at 0 ∷ bytes_from b (at + 1) n

abbrev pub carried_in : List ℕ → Carried
carried_in b = record { signal = get_or b 0 0; status = bytes_from b 1 most_categories; values = get_or b 9 0 }

abbrev pub carried_bytes : Carried → List ℕ
carried_bytes r = r.signal ∷ (r.status ++ (r.values ∷ []))

-- bytes and record correspond, both ways
pub record BytesLaw : Type 0 where
  pub there : (r : Carried) → length r.status ≡ most_categories → carried_in (carried_bytes r) ≡ r
  pub back : (b : List ℕ) → length b ≡ 10 → carried_bytes (carried_in b) ≡ b
