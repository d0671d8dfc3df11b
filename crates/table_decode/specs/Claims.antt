-- Each of the numbers 4 to 12 is given exactly where it is due, and the smallest of those that are due.
-- The proofs are in proofs/Exactly.antt.
use Rattle.std.specs.Prelude.{ℕ, ◌<◌, ◌≡◌, ◌↔◌, length, get_or}
use mathlib.Core.List.{List, [], ◌∷◌, ◌++◌, Memᴰ}
use Rattle.base_numbers.specs.Numbers.{most_categories, most_name_bytes, most_nodes, most_signals, most_table_bytes, most_urn_bytes, most_urns}
use Rattle.base_lists.specs.Lists.{each}
use Rattle.theory_resolution.specs.Names.{Name}
use Rattle.theory_resolution.specs.Table.{Urn, urn, Table, row_of}
use Rattle.theory_resolution.specs.Nodes.{nodes}
use Rattle.urn_names.specs.Urn.{category_of}
use Rattle.table_sections.specs.Stored.{Stored}
use Rattle.table_decode.specs.Tables.{table_in, table_refusal}
use Rattle.table_decode.specs.Bytes.{section, text_bytes, stored_bytes, Every, FitsByte, FitsText, FitsMany, FitsNames, FitsStored}
use Rattle.table_decode.specs.Forms.{NameForm, UrnForm}

-- where a byte from lo to hi is due, the bytes end (5), or another stands there (6)
pub data ByteStops (lo hi k : ℕ) (s : List ℕ) : Type 0 where
  ended : k ≡ 5 → s ≡ [] → ByteStops lo hi k s
  outside : (b : ℕ) (r : List ℕ) → k ≡ 6 → s ≡ b ∷ r → (FitsByte lo hi b → ⊥) → ByteStops lo hi k s

-- where a text of 1 to hi bytes is due: at its length, or the bytes end before the text does
pub data TextStops (hi k : ℕ) (s : List ℕ) : Type 0 where
  at_length : ByteStops 1 hi k s → TextStops hi k s
  cut : (n : ℕ) (r : List ℕ) → k ≡ 5 → s ≡ n ∷ r → FitsByte 1 hi n → length r < n → TextStops hi k s

-- where lo to hi things are due after their count: at the count, or at one of them, after fewer than it says
pub data ManyStops {A : Type 0} (lo hi : ℕ) (w : A → List ℕ) (Fits : A → Type 0) (Stops : ℕ → List ℕ → Type 0) (k : ℕ) (s : List ℕ) : Type 0 where
  at_count : ByteStops lo hi k s → ManyStops lo hi w Fits Stops k s
  later : (n : ℕ) (xs : List A) (r : List ℕ) → FitsByte lo hi n → length xs < n → Every Fits xs → s ≡ n ∷ (each w xs ++ r) → Stops k r
      → ManyStops lo hi w Fits Stops k s

abbrev pub NamesStop : ℕ → List ℕ → Type 0
NamesStop = ManyStops 1 most_categories text_bytes (FitsText most_name_bytes) (TextStops most_name_bytes)

abbrev pub SignalStops : ℕ → List ℕ → Type 0
SignalStops = ManyStops 0 most_urns text_bytes (FitsText most_urn_bytes) (TextStops most_urn_bytes)

abbrev pub SignalsStop : ℕ → List ℕ → Type 0
SignalsStop = ManyStops 1 most_signals (section text_bytes) (FitsMany 0 most_urns (FitsText most_urn_bytes)) SignalStops

-- 5 and 6, from the left: the bytes stop at the categories, or at the signals after them; or they go on after a whole table (5)
pub data TableStops (k : ℕ) (t : List ℕ) : Type 0 where
  in-names : NamesStop k t → TableStops k t
  in-signals : (ns : List Name) (r : List ℕ) → FitsNames ns → t ≡ section text_bytes ns ++ r → SignalsStop k r → TableStops k t
  goes_on : (s : Stored) (b : ℕ) (r : List ℕ) → k ≡ 5 → FitsStored s → t ≡ stored_bytes s ++ b ∷ r → TableStops k t

-- 7: a name, or a URN of a signal, does not have its form
pub data Misformed (s : Stored) : Type 0 where
  of-name : (x : Name) → Memᴰ x s.names → (NameForm x → ⊥) → Misformed s
  of-urn : (sig : List (List ℕ)) → Memᴰ sig s.signals → (u : List ℕ) → Memᴰ u sig → (UrnForm u → ⊥) → Misformed s

-- 8: a category is listed twice; or no URN has it; or a URN has one that is not listed
pub data Mislisted (s : Stored) : Type 0 where
  twice : (i j : ℕ) → i < j → j < length s.names → get_or s.names i [] ≡ get_or s.names j [] → Mislisted s
  unused : (x : Name) → Memᴰ x s.names → Every (Every (λ u. category_of u ≡ x → ⊥)) s.signals → Mislisted s
  unlisted : (sig : List (List ℕ)) → Memᴰ sig s.signals → (u : List ℕ) → Memᴰ u sig → (Memᴰ (category_of u) s.names → ⊥) → Mislisted s

-- 9: a signal has two URNs of one category
abbrev pub TwoOfOne : Table → Type 0
TwoOfOne T = (sig : List Urn) × Memᴰ sig T.signals × (i j : ℕ) × (i < j) × (j < length sig) × ((get_or sig i (urn 0 [])).cat ≡ (get_or sig j (urn 0 [])).cat)

-- 10: signal 0 has a URN
abbrev pub ZeroSays : Table → Type 0
ZeroSays T = (u : Urn) × Memᴰ u (get_or T.signals 0 [])

-- 11: two signals have the same places
abbrev pub AlikePlaces : Table → Type 0
AlikePlaces T = (i j : ℕ) × (i < j) × (j < length T.signals) × (row_of T i ≡ row_of T j)

-- 12: there are over 64 nodes
abbrev pub ManyNodes : Table → Type 0
ManyNodes T = most_nodes < length (nodes T)

-- the bytes are those of a table that holds s, with every count and length in its range
pub record Holding (t : List ℕ) (s : Stored) : Type 0 where
  pub fits : FitsStored s
  pub bytes : t ≡ stored_bytes s

-- what the number n says is so of the bytes t
pub data Due (t : List ℕ) (n : ℕ) : Type 0 where
  four : n ≡ 4 → most_table_bytes < length t → Due t n
  five-six : TableStops n t → Due t n
  seven : n ≡ 7 → (s : Stored) → Holding t s → Misformed s → Due t n
  eight : n ≡ 8 → (s : Stored) → Holding t s → Mislisted s → Due t n
  nine : n ≡ 9 → (s : Stored) → Holding t s → TwoOfOne (table_in s) → Due t n
  ten : n ≡ 10 → (s : Stored) → Holding t s → ZeroSays (table_in s) → Due t n
  eleven : n ≡ 11 → (s : Stored) → Holding t s → AlikePlaces (table_in s) → Due t n
  twelve : n ≡ 12 → (s : Stored) → Holding t s → ManyNodes (table_in s) → Due t n

-- 0: the bytes are those of a table, and no number is due; else the number is due, and no smaller one is
pub data TableGiven (t : List ℕ) (n : ℕ) : Type 0 where
  accepted : n ≡ 0 → (s : Stored) → Holding t s → ((m : ℕ) → Due t m → ⊥) → TableGiven t n
  first : Due t n → ((m : ℕ) → m < n → Due t m → ⊥) → TableGiven t n

-- a number is the table's exactly if it is given so
abbrev pub TableRefusedExactly : Type 0
TableRefusedExactly = (t : List ℕ) (n : ℕ) → table_refusal t ≡ n ↔ TableGiven t n
