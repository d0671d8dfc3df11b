-- How the arrays of a decoded tree say its URNs in full.
use Rattle.std.specs.Prelude.{ℕ, zero, suc, ◌-◌, ◌≤◌, ◌<◌, ◌≡◌, cond, List, [], ◌∷◌, ◌++◌, get_or}
use Rattle.base_numbers.specs.Numbers.{most_categories, most_nodes, most_urn_bytes, most_urn_parts}
use Rattle.base_lists.specs.Cuts.{stretch}
use Rattle.base_lists.specs.Numbers.{within}
use Rattle.base_lists.specs.Lists.{tabulate, each}
use Rattle.theory_resolution.specs.Names.{Name}
use Rattle.tree_sections.specs.Held.{TreeHeld}
use Rattle.tree_sections.specs.declared.Counts.{Counts}
use Rattle.tree_forms.specs.Refusals.{tree_refusal}
use Rattle.tree_decode.specs.Stages.{Measured}

-- bytes of a path at most: 8 parts, each a colon and up to 255 bytes
abbrev pub most_path : ℕ
most_path = 2048

-- over the bytes of a URN: its length, its category and its path
abbrev pub urn_bound : ℕ
urn_bound = 2400

-- over the bytes of the URNs of a signal, with their count
abbrev pub urns_bound : ℕ
urns_bound = 700000

-- the parent of node k, or 0
unfoldable pub parent_of : List ℕ → ℕ → ℕ
parent_of parent k = cond (within 1 most_nodes k) (get_or parent (k - 1) 0) 0

-- the j-th ancestor of node k, itself for 0
abbrev pub ancestor_of : List ℕ → ℕ → ℕ → ℕ
ancestor_of parent k zero = k
ancestor_of parent k (suc j) = parent_of parent (ancestor_of parent k j)

-- the last name of node k, or none
unfoldable pub last_of : List ℕ → List ℕ → List ℕ → ℕ → Name
last_of t at len k = cond (within 1 most_nodes k) (stretch t at len (k - 1)) []

-- a colon and the last name of the ancestor of node k at depth d of n
abbrev pub part_bytes : (t parent at len : List ℕ) → ℕ → ℕ → ℕ → List ℕ
part_bytes t parent at len k n d = 58 ∷ last_of t at len (ancestor_of parent k (n - 1 - d))

-- the URN of node k with its length before it, as the arrays say it
unfoldable pub urn_bytes : (t name_at name_len category parent at len size depth : List ℕ) → ℕ → List ℕ
urn_bytes t name_at name_len category parent at len size depth k =
    get_or size (k - 1) 0 ∷ (stretch t name_at name_len (get_or category (k - 1) 0) ++ each (part_bytes t parent at len k (get_or depth (k - 1) 0)) (tabulate (λ d. d) (get_or depth (k - 1) 0)))

-- every number is that of a node whose URN can be written
pub record Ready (number category size depth : List ℕ) (m : ℕ) : Type 0 where
  pub node : (i : ℕ) → i < m → (1 ≤ get_or number i 0) × (get_or number i 0 ≤ most_nodes)
  pub listed : (i : ℕ) → i < m → get_or category (get_or number i 0 - 1) 0 < most_categories
  pub small : (i : ℕ) → i < m → get_or size (get_or number i 0 - 1) 0 ≤ most_urn_bytes
  pub shallow : (i : ℕ) → i < m → get_or depth (get_or number i 0 - 1) 0 ≤ most_urn_parts

-- the arrays hold a well-formed tree, and how long and deep the URN of each node is
pub record TreeAs (t name_at name_len category parent at len signal number size depth : List ℕ) (r : Counts) : Type 0 where
  pub right : tree_refusal t ≡ 0
  pub read : TreeHeld t name_at name_len category parent at len signal number r
  pub measured : Measured t name_at name_len category parent at len r.nodes size depth
