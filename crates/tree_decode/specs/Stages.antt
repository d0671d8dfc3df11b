-- What is known of a tree and its arrays after each refusal.
use Rattle.std.specs.Prelude.{ℕ, suc, ◌+◌, ◌-◌, ◌≤◌, ◌<◌, ◌≡◌, true, cond, Result, Ok, Err, List, length, get_or, eqb}
use Rattle.base_numbers.specs.Numbers.{most_categories, most_nodes}
use Rattle.base_numbers.specs.Refusals.{refusal_number}
use Rattle.base_numbers.specs.declared.refusal.Refusal.{Refusal}
use Rattle.base_lists.specs.Cuts.{stretch}
use Rattle.tree_sections.specs.Held.{tree_held, TreeHeld}
use Rattle.tree_sections.specs.declared.Counts.{Counts}
use Rattle.tree_forms.specs.Meaning.{table_of_tree}
use Rattle.tree_forms.specs.Refusals.{named, grown, tree_refusal}
use Rattle.tree_decode.specs.Direct.{short_in, few_parts}
use Rattle.tree_decode.specs.declared.Decoded.{Decoded}

-- every parent comes before its node, and every category is one of 8
pub record Parented (parent category : List ℕ) (n : ℕ) : Type 0 where
  pub low : (i : ℕ) → i < n → get_or parent i 0 ≤ i
  pub few : (i : ℕ) → i < n → get_or category i 0 < most_categories

-- each node's value is its parent's, or a first one under the root, and something more
abbrev pub FromParent : List ℕ → (ℕ → ℕ) → (ℕ → ℕ) → List ℕ → ℕ → Type 0
FromParent parent first more out n =
    (i : ℕ) → i < n → get_or out i 0 ≡ cond (eqb (get_or parent i 0) 0) (first i) (get_or out (get_or parent i 0 - 1) 0) + more i

-- how many bytes each node's URN has, with its category
abbrev pub Sizes : (t name_at name_len category parent at len : List ℕ) (n : ℕ) (out : List ℕ) → Type 0
Sizes t name_at name_len category parent at len n out =
    FromParent parent (λ i. length (stretch t name_at name_len (get_or category i 0))) (λ i. suc (length (stretch t at len i))) out n

-- how many parts each node's URN has
abbrev pub Depths : (parent : List ℕ) (n : ℕ) (out : List ℕ) → Type 0
Depths parent n out = FromParent parent (λ i. 0) (λ i. 1) out n

-- both
pub record Measured (t name_at name_len category parent at len : List ℕ) (n : ℕ) (size depth : List ℕ) : Type 0 where
  pub sizes : Sizes t name_at name_len category parent at len n size
  pub depths : Depths parent n depth

-- every number is that of a node
abbrev pub Nodes : List ℕ → ℕ → Type 0
Nodes number m = (i : ℕ) → i < m → (1 ≤ get_or number i 0) × (get_or number i 0 ≤ most_nodes)

-- the category of each number's node
abbrev pub UrnCategories : (number category out : List ℕ) → ℕ → Type 0
UrnCategories number category out m = (i : ℕ) → i < m → get_or out i 0 ≡ get_or category (get_or number i 0 - 1) 0

-- after 7 and 21: the arrays hold a tree whose names have their form, and that has grown in order
pub record GrownAs (t name_at name_len category parent at len signal number : List ℕ) (r : Counts) : Type 0 where
  pub read : TreeHeld t name_at name_len category parent at len signal number r
  pub names : named (tree_held t name_at name_len category parent at len read.signals r) ≡ true
  pub grows : grown (tree_held t name_at name_len category parent at len read.signals r) ≡ true

-- after 6 and 7, by meaning
pub record FitAs (t name_at name_len category parent at len signal number : List ℕ) (r : Counts) : Type 0 where
  pub grows : GrownAs t name_at name_len category parent at len signal number r
  pub shorts : short_in (tree_held t name_at name_len category parent at len grows.read.signals r).names (table_of_tree (tree_held t name_at name_len category parent at len grows.read.signals r)) ≡ true
  pub fews : few_parts (table_of_tree (tree_held t name_at name_len category parent at len grows.read.signals r)) ≡ true

-- the arrays of a decoded tree
pub record Holds (t : List ℕ) (r : Decoded) : Type 0 where
  pub read : TreeHeld t r.sections.name_at r.sections.name_len r.sections.category r.sections.parent r.sections.at r.sections.len r.sections.signal r.sections.number r.sections.counts
  pub measured : Measured t r.sections.name_at r.sections.name_len r.sections.category r.sections.parent r.sections.at r.sections.len r.sections.counts.nodes r.size r.depth

-- a tree that is not refused
pub record DecodedAs (t : List ℕ) (r : Decoded) : Type 0 where
  pub refusal : tree_refusal t ≡ 0
  pub holds : Holds t r

-- what `decode` answers
abbrev pub Means : List ℕ → Result Decoded Refusal → Type 0
Means t (Ok r) = DecodedAs t r
Means t (Err k) = refusal_number k ≡ tree_refusal t
