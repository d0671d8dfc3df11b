-- A signal table: its signals' places, and the search for a signal by its places.
use Rattle.std.specs.Prelude.{ℕ, zero, suc, ◌+◌, ◌<◌, max, ◌≡◌, ◌≢◌, Bool, cond, eqb, get_or, length}
use Rattle.std.proofs.Math.Option.{Option, none, some}
use mathlib.Core.List.{List, [], ◌∷◌, Memᴰ}
use Rattle.base_lists.specs.Lists.{same_list}
use Rattle.theory_resolution.specs.Names.{Name, Parts, same_parts}

-- an alert URN: its category's number and its path
pub record Urn : Type 0 where
  pub cat : ℕ
  pub path : Parts

abbrev pub urn : ℕ → Parts → Urn
urn c p = record { cat = c; path = p }

-- the number of categories, and each signal's URNs in stored order; both are numbered from 0
pub record Table : Type 0 where
  pub cats : ℕ
  pub signals : List (List Urn)

-- the path of the list's first URN of category c, or the root
abbrev pub place_in : List Urn → ℕ → Parts
place_in [] c = []
place_in (u ∷ us) c = cond (eqb u.cat c) u.path (place_in us c)

-- the place of signal s in category c: the path that it names, or the root if it names none
abbrev pub place : Table → ℕ → ℕ → Parts
place t s c = place_in (get_or t.signals s []) c

-- one place for each category
abbrev pub Row : Type 0
Row = List Parts

-- the places in the n categories from c on
abbrev pub row_from : List Urn → ℕ → ℕ → Row
row_from sig c zero = []
row_from sig c (suc n) = place_in sig c ∷ row_from sig (suc c) n

-- the places of signal s in all categories
abbrev pub row_of : Table → ℕ → Row
row_of t s = row_from (get_or t.signals s []) 0 t.cats

abbrev pub same_row : Row → Row → Bool
same_row = same_list same_parts

-- the first signal of the list, counted from i, that has these places
abbrev pub find_from : ℕ → ℕ → List (List Urn) → Row → Option ℕ
find_from n i [] r = none
find_from n i (sig ∷ sigs) r = cond (same_row (row_from sig 0 n) r) (some i) (find_from n (suc i) sigs r)

-- the first signal of the table that has these places
abbrev pub find : Table → Row → Option ℕ
find t r = find_from t.cats 0 t.signals r

-- how many parts a signal names in all its URNs; a category is no part
abbrev pub parts_of : List Urn → ℕ
parts_of [] = 0
parts_of (u ∷ us) = length u.path + parts_of us

-- the largest number of parts that one signal names
abbrev pub most_parts : List (List Urn) → ℕ
most_parts [] = 0
most_parts (sig ∷ sigs) = max (parts_of sig) (most_parts sigs)

-- all that the laws ask of a table: there is a signal 0, it has no URN, and no name is empty
pub record WellFormed (t : Table) : Type 0 where
  pub some-signal : 0 < length t.signals
  pub silent : get_or t.signals 0 [] ≡ []
  pub named : (sig : List Urn) → Memᴰ sig t.signals → (u : Urn) → Memᴰ u sig → (x : Name) → Memᴰ x u.path → x ≢ []
