-- What lent arrays must hold to stand for a table's names and nodes. Node k of the table stands at k - 1 in each array of nodes; 0 is
-- the root.
use Rattle.std.specs.Prelude.{ℕ, zero, suc, ◌≤◌, ◌<◌, ◌≡◌, Bool, true, false, cond, not, ◌&&◌, List, [], eqb, ltb, get_or, length}
use Rattle.base_numbers.specs.Numbers.{most_categories, most_nodes}
use Rattle.base_lists.specs.Cuts.{stretch}
use Rattle.theory_resolution.specs.Names.{Name}
use Rattle.theory_resolution.specs.Table.{Table}
use Rattle.theory_resolution.specs.Nodes.{nodes, node_at, has_under}
use Rattle.base_text.specs.Text.{fields, common}

-- the same in arrays with room for n texts: no bytes past them
unfoldable pub text_in : ℕ → List ℕ → List ℕ → List ℕ → ℕ → List ℕ
text_in n t at len i = cond (ltb i n) (stretch t at len i) []

-- the names of the categories, in order
pub record NamesIn (t name_at name_len : List ℕ) (k : ℕ) (names : List Name) : Type 0 where
  pub all-names : length names ≡ k
  pub few-names : k ≤ most_categories
  pub name-at : (i : ℕ) → i < k → stretch t name_at name_len i ≡ get_or names i []

-- the nodes in order: each one's category, and its path's bytes with colons between the parts
pub record NodesIn (t category at len : List ℕ) (n : ℕ) (T : Table) : Type 0 where
  pub all-nodes : length (nodes T) ≡ n
  pub few-nodes : n ≤ most_nodes
  pub cat-at : (i : ℕ) → i < n → get_or category i 0 ≡ (node_at (nodes T) i).cat
  pub path-at : (i : ℕ) → i < n → fields 58 (stretch t at len i) ≡ (node_at (nodes T) i).path

-- the path of the last of the first i nodes that is of category c, as bytes; none if there is no such node
unfoldable pub last_path : List ℕ → List ℕ → List ℕ → List ℕ → ℕ → ℕ → List ℕ
last_path t category at len c zero = []
last_path t category at len c (suc i) = cond (eqb (get_or category i 0) c) (stretch t at len i) (last_path t category at len c i)

-- how many bytes the path of the i-th of n nodes has in common with the one before it in its category; 0 past them
unfoldable pub shared_of : (t category at len : List ℕ) (n i : ℕ) → ℕ
shared_of t category at len n i = cond (ltb i n) (common (last_path t category at len (get_or category i 0) i) (stretch t at len i)) 0

-- so it is of each of n nodes
abbrev pub SharedIn : List ℕ → List ℕ → List ℕ → List ℕ → List ℕ → ℕ → Type 0
SharedIn t category at len shared n = (i : ℕ) → i < n → get_or shared i 0 ≡ common (last_path t category at len (get_or category i 0) i) (stretch t at len i)

-- none of the first n nodes has the parent d
unfoldable pub childless : List ℕ → ℕ → ℕ → Bool
childless ps d zero = true
childless ps d (suc n) = childless ps d n && not (eqb (get_or ps n 0) d)

-- whether some of the first n nodes has the k-th for its parent
unfoldable pub inner_of : List ℕ → ℕ → ℕ → Bool
inner_of ps n k = not (childless ps (suc k) n)

-- which nodes have nodes under them; the others are the leaves
abbrev pub InnerIn : List Bool → Table → Type 0
InnerIn inner T = (i : ℕ) → i < length (nodes T) → get_or inner i false ≡ has_under (nodes T) (node_at (nodes T) i).cat (node_at (nodes T) i).path
