-- Why a table in the tree form is refused with 21, in words: by the numbers that stand in it.
use Rattle.std.specs.Prelude.{ℕ, suc, ◌≤◌, ◌<◌, ◌≡◌, ◌⊎◌, ◌↔◌, false, length, get_or}
use mathlib.Core.List.{List, Memᴰ}
use Rattle.base_lists.specs.Lists.{joined}
use Rattle.tree_sections.specs.Tree.{Node, node_of, Tree}
use Rattle.tree_forms.specs.Refusals.{grown}

-- the node numbers of all signals, in stored order
abbrev pub numbers_of : Tree → List ℕ
numbers_of x = joined x.signals

-- the parent of the node at index i is 0, or an earlier node of the same category
abbrev pub RightParent : List Node → ℕ → Type 0
RightParent ns i =
    ((node_of ns i).parent ≡ 0) ⊎ ((j : ℕ) × (j < i) × ((node_of ns i).parent ≡ suc j) × ((node_of ns j).category ≡ (node_of ns i).category))

-- node a is node b or above it, both by their numbers
pub data Over (ns : List Node) (a : ℕ) : ℕ → Type 0 where
  itself : Over ns a a
  higher : (i : ℕ) → Over ns a (node_of ns i).parent → Over ns a (suc i)

-- node a appears at place p: the number there is a, or that of a node under a
pub record Appears (x : Tree) (a p : ℕ) : Type 0 where
  pub there : p < length (numbers_of x)
  pub over : Over x.nodes a (get_or (numbers_of x) p 0)

-- the reasons for 21
pub data Ungrown (x : Tree) : Type 0 where
  -- a category that is not there
  no-category : (i : ℕ) → i < length x.nodes → length x.names ≤ (node_of x.nodes i).category → Ungrown x
  -- a node number that is not there
  no-node : (k : ℕ) → Memᴰ k (numbers_of x) → (k ≡ 0) ⊎ (length x.nodes < k) → Ungrown x
  -- a node whose parent is of another category, or does not come before it
  no-parent : (i : ℕ) → i < length x.nodes → (RightParent x.nodes i → ⊥) → Ungrown x
  -- a node that is repeated
  repeated : (i j : ℕ) → i < j → j < length x.nodes → node_of x.nodes i ≡ node_of x.nodes j → Ungrown x
  -- a node that is unused: it appears nowhere
  unused : (a : ℕ) → 1 ≤ a → a ≤ length x.nodes → ((p : ℕ) → Appears x a p → ⊥) → Ungrown x
  -- a node out of order: a later one appears before it
  out_of_order : (a b p : ℕ) → 1 ≤ a → a < b → Appears x b p → ((q : ℕ) → q ≤ p → Appears x a q → ⊥) → Ungrown x

-- the tests of 21 fail exactly for one of these reasons
abbrev pub UngrownExactly : Type 0
UngrownExactly = (x : Tree) → (grown x ≡ false) ↔ Ungrown x
