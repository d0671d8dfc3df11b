-- The order of refusals of a tree form for which several numbers hold: 4 to 7 as its bytes are read, 21, 6 and 7 for the URNs in full, and last 8 to
-- 11, of the table that the tree says.
use Rattle.std.specs.Prelude.{ℕ, ◌≤◌, ◌<◌, ◌≡◌, ◌⊎◌, ◌↔◌, ◌≢◌, false, length, get_or}
use mathlib.Core.List.{List, [], Memᴰ}
use Rattle.base_numbers.specs.Numbers.{most_table_bytes, most_urn_bytes, most_urn_parts}
use Rattle.theory_resolution.specs.Names.{Name}
use Rattle.theory_resolution.specs.Table.{Urn}
use Rattle.urn_names.specs.Urn.{stored_name}
use Rattle.table_sections.specs.Stored.{fault, got}
use Rattle.table_places.specs.Verdict.{verdict}
use Rattle.tree_sections.specs.Tree.{Node, Tree, tree}
use Rattle.tree_forms.specs.Meaning.{table_of_tree, urn_text}
use Rattle.tree_forms.specs.Refusals.{tree_refusal}
use Rattle.tree_nodes.specs.Ungrown.{Ungrown}

-- a category's name, or a node's last name
abbrev pub NameIn : Tree → Name → Type 0
NameIn x y = Memᴰ y x.names ⊎ ((n : Node) × Memᴰ n x.nodes × (n.last ≡ y))

-- a URN that a signal has
abbrev pub UrnIn : Tree → Urn → Type 0
UrnIn x u = (sig : List Urn) × Memᴰ sig (table_of_tree x).signals × Memᴰ u sig

-- a name of bad form
abbrev pub BadName : Tree → Type 0
BadName x = (y : Name) × NameIn x y × (stored_name y ≡ false)

-- a path of over 255 bytes in the old form, category and all
abbrev pub LongPath : Tree → Type 0
LongPath x = (u : Urn) × UrnIn x u × (most_urn_bytes < length (urn_text x.names u))

-- a path of over 8 parts
abbrev pub DeepPath : Tree → Type 0
DeepPath x = (u : Urn) × UrnIn x u × (most_urn_parts < length u.path)

-- a category that is listed twice, or that no signal uses
abbrev pub BadCategory : Tree → Type 0
BadCategory x =
    ((i : ℕ) × (j : ℕ) × (i < j) × (j < length x.names) × (get_or x.names i [] ≡ get_or x.names j []))
    ⊎ ((c : ℕ) × (c < length x.names) × ((u : Urn) → UrnIn x u → u.cat ≢ c))

-- the number n of a tree that could be read: each is given exactly if what it says holds, and nothing before it
pub record Ordered (x : Tree) (n : ℕ) : Type 0 where
  pub names : BadName x → n ≡ 7
  pub twenty-one : (BadName x → ⊥) → (n ≡ 21) ↔ Ungrown x
  pub long_path : (BadName x → ⊥) → (Ungrown x → ⊥) → (n ≡ 6) ↔ LongPath x
  pub deep-path : (BadName x → ⊥) → (Ungrown x → ⊥) → (LongPath x → ⊥) → (n ≡ 7) ↔ DeepPath x
  pub categories : (BadName x → ⊥) → (Ungrown x → ⊥) → (LongPath x → ⊥) → (DeepPath x → ⊥) → (n ≡ 8) ↔ BadCategory x
  -- 9 to 11, of the table that the tree says
  pub signals : (BadName x → ⊥) → (Ungrown x → ⊥) → (LongPath x → ⊥) → (DeepPath x → ⊥) → (BadCategory x → ⊥) → n ≡ verdict (table_of_tree x)

-- the number of any bytes
pub record TreeOrder (t : List ℕ) : Type 0 where
  -- 4 comes first, whatever the bytes
  pub too_long : most_table_bytes < length t → tree_refusal t ≡ 4
  -- then 5 and 6, whichever is met first from the left, whatever comes after
  pub unread : length t ≤ most_table_bytes → (k : ℕ) → tree t ≡ fault k → tree_refusal t ≡ k
  -- then all others
  pub others : length t ≤ most_table_bytes → (x : Tree) (p : ℕ) → tree t ≡ got x p → Ordered x (tree_refusal t)

-- what is proved
abbrev pub OrderClaim : Type 0
OrderClaim = (t : List ℕ) → TreeOrder t

-- 21 is given exactly to trees that can be read, whose names have their form, and that have one of its reasons
abbrev pub Exactly21 : Type 0
Exactly21 = (t : List ℕ) → (tree_refusal t ≡ 21) ↔ ((length t ≤ most_table_bytes) × (x : Tree) × (p : ℕ) × (tree t ≡ got x p) × (BadName x → ⊥) × Ungrown x)
