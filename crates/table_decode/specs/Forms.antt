-- The forms of names and URNs in a stored table, as sentences about their bytes.
use Rattle.std.specs.Prelude.{ℕ, ◌≤◌, ◌≡◌, ◌⊎◌, List, [], ◌∷◌, ◌++◌, length}
use Rattle.base_numbers.specs.Numbers.{most_label_bytes, most_urn_parts}
use Rattle.theory_resolution.specs.Names.{Name, Parts}
use Rattle.base_text.specs.Text.{after_colons}
use Rattle.table_decode.specs.Bytes.{Every, FitsByte}

-- a small letter (97 to 122), a digit (48 to 57) or a hyphen (45)
abbrev pub LabelByte : ℕ → Type 0
LabelByte b = FitsByte 97 122 b ⊎ (FitsByte 48 57 b ⊎ (b ≡ 45))

-- a label: 1 to 27 of them, of which neither the first nor the last is a hyphen
pub record Label (s : List ℕ) : Type 0 where
  pub some : 1 ≤ length s
  pub few : length s ≤ most_label_bytes
  pub letters : Every LabelByte s
  pub first : (r : List ℕ) → s ≡ 45 ∷ r → ⊥
  pub last : (r : List ℕ) → s ≡ r ++ 45 ∷ [] → ⊥

-- a name: a label, or two with `@` (64) between
abbrev pub NameForm : Name → Type 0
NameForm s = Label s ⊎ ((a b : List ℕ) × Label a × Label b × (s ≡ a ++ 64 ∷ b))

-- a URN: the name of its category, and 1 to 8 names as parts, each after a colon
pub record UrnForm (u : List ℕ) : Type 0 where
  pub category : Name
  pub parts : Parts
  pub category-name : NameForm category
  pub part-names : Every NameForm parts
  pub few : FitsByte 1 most_urn_parts (length parts)
  pub joined : u ≡ category ++ after_colons parts
