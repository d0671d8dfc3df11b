-- A table as it is stored: each section after its count, each text after its length; and how much may stand in it.
use Rattle.std.specs.Prelude.{ℕ, ◌≤◌, length}
use mathlib.Core.List.{List, [], ◌∷◌, ◌++◌, Memᴰ}
use Rattle.base_numbers.specs.Numbers.{most_categories, most_name_bytes, most_signals, most_urn_bytes, most_urns}
use Rattle.base_lists.specs.Lists.{each}
use Rattle.table_sections.specs.Stored.{Stored}

-- the same after their count
abbrev pub section : {A : Type 0} → (A → List ℕ) → List A → List ℕ
section w xs = length xs ∷ each w xs

-- a text after its length
abbrev pub text_bytes : List ℕ → List ℕ
text_bytes x = length x ∷ x

-- a number, as one byte
abbrev pub number_bytes : ℕ → List ℕ
number_bytes k = k ∷ []

-- the bytes of a table: the categories' names, and the signals with their URNs in full
unfoldable pub stored_bytes : Stored → List ℕ
stored_bytes s = section text_bytes s.names ++ section (section text_bytes) s.signals

-- every element is so
abbrev pub Every : {A : Type 0} → (A → Type 0) → List A → Type 0
Every {A} P xs = (x : A) → Memᴰ x xs → P x

-- a number from lo to hi
abbrev pub FitsByte : ℕ → ℕ → ℕ → Type 0
FitsByte lo hi b = (lo ≤ b) × (b ≤ hi)

-- a text of 1 to hi bytes
abbrev pub FitsText : ℕ → List ℕ → Type 0
FitsText hi x = FitsByte 1 hi (length x)

-- so many that fit
abbrev pub FitsMany : {A : Type 0} → ℕ → ℕ → (A → Type 0) → List A → Type 0
FitsMany lo hi Fits xs = FitsByte lo hi (length xs) × Every Fits xs

-- 1 to 8 names of 1 to 55 bytes
abbrev pub FitsNames : List (List ℕ) → Type 0
FitsNames = FitsMany 1 most_categories (FitsText most_name_bytes)

-- 1 to 32 signals, each of up to 8 URNs of 1 to 255 bytes
abbrev pub FitsSignals : List (List (List ℕ)) → Type 0
FitsSignals = FitsMany 1 most_signals (FitsMany 0 most_urns (FitsText most_urn_bytes))

-- what a stored table can hold
pub record FitsStored (s : Stored) : Type 0 where
  pub names : FitsNames s.names
  pub signals : FitsSignals s.signals
