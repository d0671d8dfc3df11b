-- What lent arrays must hold to stand for a table's signals: the places of each as node numbers, and the nodes' parents. Node k of the
-- table stands at k - 1; 0 is the root.
use Rattle.std.specs.Prelude.{ℕ, suc, ◌+◌, ◌*◌, ◌≤◌, ◌<◌, ◌≡◌, List, [], ◌∷◌, ◌++◌, get_or, length}
use Rattle.base_numbers.specs.Numbers.{most_categories, most_nodes, most_signals, most_urn_parts}
use Rattle.theory_resolution.specs.Names.{Name, Parts}
use Rattle.theory_resolution.specs.Table.{Urn, Table, Row, row_of}
use Rattle.theory_resolution.specs.Nodes.{nodes, number, node_at}

-- digits to the base 256, the first lowest
abbrev pub pack : List ℕ → ℕ
pack [] = 0
pack (x ∷ l) = x + 256 * pack l

-- the node numbers of a row's places, from category c on
abbrev pub numbers_from : List Urn → ℕ → Row → List ℕ
numbers_from ns c [] = []
numbers_from ns c (p ∷ r) = number ns c p ∷ numbers_from ns (suc c) r

-- the places of the n signals, each signal's in one number with a byte for each category, and the parents of the nodes
pub record Numbers (rows parents : List ℕ) (n : ℕ) (T : Table) : Type 0 where
  pub few-cats : T.cats ≤ most_categories
  pub all-signals : length T.signals ≡ n
  pub few-signals : n ≤ most_signals
  pub few-nodes : length (nodes T) ≤ most_nodes
  pub few-parts : (k : ℕ) → k < length (nodes T) → length (node_at (nodes T) k).path ≤ most_urn_parts
  pub packed : (s : ℕ) → s < n → get_or rows s 0 ≡ pack (numbers_from (nodes T) 0 (row_of T s))
  pub parent-at : (k : ℕ) → k < length (nodes T) → (p : Parts) (x : Name) → (node_at (nodes T) k).path ≡ p ++ x ∷ []
      → get_or parents k 0 ≡ number (nodes T) (node_at (nodes T) k).cat p
