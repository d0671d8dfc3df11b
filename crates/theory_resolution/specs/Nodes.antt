-- The nodes of a table and their numbers, its leaves, and the deepest node that is a path or above it.
use Rattle.std.specs.Prelude.{ℕ, suc, ◌≡◌, ◌⊎◌, ◌≢◌, Bool, true, false, cond, not, ◌&&◌, ◌||◌, eqb, get_or}
use mathlib.Core.List.{List, [], ◌∷◌, ◌++◌, foldl, Memᴰ}
use Rattle.base_lists.specs.Lists.{member_by, add_by, index_by}
use Rattle.theory_resolution.specs.Names.{Parts, same_parts, proper_ancestor, Above, longer}
use Rattle.theory_resolution.specs.Table.{Urn, urn, Table}

abbrev pub same_urn : Urn → Urn → Bool
same_urn a b = eqb a.cat b.cat && same_parts a.path b.path

abbrev pub member : Urn → List Urn → Bool
member = member_by same_urn

-- the paths longer than q up to q ++ r, shortest first
abbrev pub past : Parts → Parts → List Parts
past q [] = []
past q (x ∷ r) = (q ++ x ∷ []) ∷ past (q ++ x ∷ []) r

-- a path's ancestors with at least one part, and itself, shortest first
abbrev pub prefixes : Parts → List Parts
prefixes p = past [] p

-- with the URN's ancestors and itself, each unless it is there
abbrev pub add_urn : List Urn → Urn → List Urn
add_urn seen u = foldl (λ s p. add_by same_urn s (urn u.cat p)) seen (prefixes u.path)

-- with those of all URNs of a signal
abbrev pub add_signal : List Urn → List Urn → List Urn
add_signal seen sig = foldl add_urn seen sig

-- the nodes are the paths, but for the root, that are some signal's place or above it.
-- Nodes stand in the order of first appearance, ancestors first
unfoldable pub nodes : Table → List Urn
nodes t = foldl add_signal [] t.signals

-- p is a node of category c
abbrev pub is_node : List Urn → ℕ → Parts → Bool
is_node ns c p = member (urn c p) ns

-- a node's number: the first has 1, and 0 is for the root, which is no node
abbrev pub number : List Urn → ℕ → Parts → ℕ
number ns c p = cond (is_node ns c p) (suc (index_by same_urn (urn c p) ns)) 0

-- the node at index k: it has number k + 1
abbrev pub node_at : List Urn → ℕ → Urn
node_at ns k = get_or ns k (urn 0 [])

-- p is the root, or a node of category c
abbrev pub RootOrNode : List Urn → ℕ → Parts → Type 0
RootOrNode ns c p = (p ≡ []) ⊎ (is_node ns c p ≡ true)

-- what makes a path a node, without the list: it has a part, and some signal's URN is it or below it
pub record NodeOf (t : Table) (c : ℕ) (p : Parts) : Type 0 where
  pub some-part : p ≢ []
  pub signal : List Urn
  pub by : Urn
  pub listed : Memᴰ signal t.signals
  pub named : Memᴰ by signal
  pub cat : by.cat ≡ c
  pub above : Above p by.path

-- some node of category c lies under p
abbrev pub has_under : List Urn → ℕ → Parts → Bool
has_under [] c p = false
has_under (n ∷ ns) c p = (eqb n.cat c && proper_ancestor p n.path) || has_under ns c p

-- p is a node of category c that has nodes under it
abbrev pub is_inner : List Urn → ℕ → Parts → Bool
is_inner ns c p = is_node ns c p && has_under ns c p

-- p is the root
abbrev pub is_root : Parts → Bool
is_root [] = true
is_root (x ∷ p) = false

-- a leaf, asked of a node or the root: no node lies under it, and it is not the root
unfoldable pub leaf : List Urn → ℕ → Parts → Bool
leaf ns c p = not (is_root p) && not (has_under ns c p)

-- the first of the paths that is a node, or the root
abbrev pub first_node : List Urn → ℕ → List Parts → Parts
first_node ns c [] = []
first_node ns c (p ∷ ps) = cond (is_node ns c p) p (first_node ns c ps)

-- the deepest node that is u or above it, or the root
unfoldable pub deepest : List Urn → ℕ → Parts → Parts
deepest ns c u = first_node ns c (longer [] u)
