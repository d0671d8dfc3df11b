-- How the arrays that are lent from function to function hold what was read.
use Rattle.std.specs.Prelude.{ℕ, suc, ◌-◌, ◌≤◌, ◌≡◌, Result, Ok, Err, List, [], ◌∷◌, ◌++◌, map, length, get_or, take, drop}
use Rattle.base_numbers.specs.Numbers.{most_categories, most_signals, most_table_bytes, most_table_urns}
use Rattle.base_lists.specs.Cuts.{stretch}
use Rattle.base_lists.specs.Lists.{tabulate}
use Rattle.table_sections.specs.Stored.{Read, fault, got, stored_from, sections}
use Rattle.base_numbers.specs.Refusals.{refusal_number}
use Rattle.base_numbers.specs.declared.refusal.Refusal.{Refusal}
use Rattle.table_sections.specs.declared.Counts.{Counts}

-- a value with the position after it, or why there is none
abbrev pub Reading : Type 0
Reading = Result (ℕ × ℕ) Refusal

-- something of a signal, with the signal's number
pub record Tagged (A : Type 0) : Type 0 where
  pub signal : ℕ
  pub what : A

abbrev pub tag : {A : Type 0} → ℕ → A → Tagged A
tag s x = record { signal = s; what = x }

-- what the signals have, one after the other, the first signal's number being s
unfoldable pub tagged_from : {A : Type 0} → ℕ → List (List A) → List (Tagged A)
tagged_from s [] = []
tagged_from s (sig ∷ sigs) = map (tag s) sig ++ tagged_from (suc s) sigs

-- the i-th stored URN
abbrev pub urn_at : List ℕ → List ℕ → List ℕ → List ℕ → ℕ → Tagged (List ℕ)
urn_at t signal at len i = tag (get_or signal i 0) (stretch t at len i)

-- an array of so many numbers; from the n-th on they are 0
abbrev pub Padded : ℕ → ℕ → List ℕ → Type 0
Padded size n a = (length a ≡ size) × ((k : ℕ) → n ≤ k → get_or a k 0 ≡ 0)

-- three arrays with room for every URN
abbrev pub Room : List ℕ → List ℕ → List ℕ → Type 0
Room at len signal = (length at ≡ most_table_urns) × (length len ≡ most_table_urns) × (length signal ≡ most_table_urns)

-- a reading's value, changed
unfoldable pub map_read : {A B : Type 0} → (A → B) → Read A → Read B
map_read f (fault k) = fault k
map_read f (got x at) = got (f x) at

-- a number that was read
abbrev pub number_read : Reading → Read ℕ
number_read (Err k) = fault (refusal_number k)
number_read (Ok x) = got x.0 x.1

-- a text that was read: the x.0 bytes before x.1
abbrev pub text_read : List ℕ → Reading → Read (List ℕ)
text_read t (Err k) = fault (refusal_number k)
text_read t (Ok x) = got (take x.0 (drop (x.1 - x.0) t)) x.1

-- its bytes are at most hi, and inside the table
abbrev pub text_inside : List ℕ → ℕ → Reading → Type 0
text_inside t hi (Err k) = Unit {0}
text_inside t hi (Ok x) = (x.0 ≤ hi) × (x.0 ≤ x.1) × (x.1 ≤ length t)

-- so many things that were read and put into arrays
abbrev pub held_read : {A : Type 0} → (ℕ → A) → Reading → Read (List A)
held_read f (Err k) = fault (refusal_number k)
held_read f (Ok x) = got (tabulate f x.0) x.1

-- how many were read
abbrev pub read_up_to : Reading → ℕ → Type 0
read_up_to (Err k) n = Unit {0}
read_up_to (Ok x) n = x.0 ≡ n

-- how many were read, at most
abbrev pub read_at_most : Reading → ℕ → Type 0
read_at_most (Err k) n = Unit {0}
read_at_most (Ok x) n = x.0 ≤ n

-- past the names that were read there is nothing
abbrev pub padded_read : List ℕ → Reading → Type 0
padded_read a (Err k) = Unit {0}
padded_read a (Ok x) = Padded most_categories x.0 a

-- what the reading w of names promises, if the table is not too long and the arrays are clear
abbrev pub NamesRead : (t at len at₁ len₁ : List ℕ) → Read (List (List ℕ)) → Reading → Type 0
NamesRead t at len at₁ len₁ w r =
    length t ≤ most_table_bytes → Padded most_categories 0 at → Padded most_categories 0 len → (held_read (stretch t at₁ len₁) r ≡ w) × padded_read at₁ r × padded_read len₁ r

-- the arrays hold the signals that were read from a position on
pub record SignalsRead (t at len signal : List ℕ) (from : ℕ) (r : Counts) : Type 0 where
  pub signals : List (List (List ℕ))
  pub next : ℕ
  pub whole : (names : List (List ℕ)) → stored_from t names from ≡ got (record { names = names; signals = signals }) next
  pub urns : tabulate (urn_at t signal at len) r.urns ≡ tagged_from 0 signals
  pub all-signals : length signals ≡ r.signals
  pub few-signals : r.signals ≤ most_signals
  pub few-urns : r.urns ≤ most_table_urns

-- the answer of the reading of the signals
abbrev pub ReadFrom : (t at len signal : List ℕ) (from : ℕ) → Result Counts Refusal → Type 0
ReadFrom t at len signal from (Err k) = (names : List (List ℕ)) → stored_from t names from ≡ fault (refusal_number k)
ReadFrom t at len signal from (Ok l) = SignalsRead t at len signal from l

-- with how many categories it is put together
abbrev pub CountsOf : ℕ → Result Counts Refusal → Type 0
CountsOf n (Err k) = Unit {0}
CountsOf n (Ok l) = l.categories ≡ n

-- the arrays hold a table that could be read; past the names that were read there is nothing
pub record ReadAs (t name_at name_len at len signal : List ℕ) (r : Counts) : Type 0 where
  pub signals : List (List (List ℕ))
  pub next : ℕ
  pub whole : sections t ≡ got (record { names = tabulate (stretch t name_at name_len) r.categories; signals = signals }) next
  pub urns : tabulate (urn_at t signal at len) r.urns ≡ tagged_from 0 signals
  pub all-signals : length signals ≡ r.signals
  pub few-categories : r.categories ≤ most_categories
  pub few-signals : r.signals ≤ most_signals
  pub few-urns : r.urns ≤ most_table_urns
  pub past-at : Padded most_categories r.categories name_at
  pub past-len : Padded most_categories r.categories name_len

-- the answer of the reading
abbrev pub Reads : (t name_at name_len at len signal : List ℕ) → Result Counts Refusal → Type 0
Reads t name_at name_len at len signal (Err k) = sections t ≡ fault (refusal_number k)
Reads t name_at name_len at len signal (Ok l) = ReadAs t name_at name_len at len signal l
