-- Unused, repeated and out of order, by numbers and last names alone: a law says that it is the same.
use Rattle.std.specs.Prelude.{ℕ, suc, ◌+◌, ◌-◌, Bool, false, cond, ◌&&◌, List, [], ◌∷◌, length, leb, eqb}
use Rattle.std.proofs.Math.Option.{Option, none, some}
use Rattle.base_lists.specs.Tests.{no_two}
use Rattle.base_lists.specs.Lists.{all_below, joined}
use Rattle.theory_resolution.specs.Names.{same_name}
use Rattle.tree_sections.specs.Tree.{Node, node_of, Tree}

-- the same category, parent and last name
abbrev pub same_node : Node → Node → Bool
same_node a b = eqb a.category b.category && (eqb a.parent b.parent && same_name a.last b.last)

-- each node after node m + 1 and up to node k has the node before it for its parent
unfoldable pub linked : List Node → ℕ → ℕ → Bool
linked ns m k = all_below (k - suc m) (λ i. eqb (node_of ns (suc m + i)).parent (suc m + i))

-- how many nodes are used, if the first m are, and then those with these numbers, ancestors first; none if not in order
unfoldable pub reached : List Node → ℕ → List ℕ → Option ℕ
reached ns m [] = some m
reached ns m (k ∷ ks) = cond (leb k m) (reached ns m ks) (cond (linked ns m k) (reached ns k ks) none)

-- it is so many
abbrev pub is_count : ℕ → Option ℕ → Bool
is_count n none = false
is_count n (some m) = eqb m n

-- no node is repeated, and the signals use all nodes, in their order
unfoldable pub scanned : Tree → Bool
scanned x = no_two same_node x.nodes && is_count (length x.nodes) (reached x.nodes 0 (joined x.signals))
