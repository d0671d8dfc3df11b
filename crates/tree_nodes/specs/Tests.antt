-- The tests of 21, by the arrays that hold a tree.
use Rattle.std.specs.Prelude.{ℕ, ◌+◌, ◌-◌, ◌≤◌, ◌≡◌, Bool, false, cond, ◌&&◌, ◌||◌, Option, Some, None, List, [], ◌∷◌, length, get_or, eqb, leb, ltb}
use Rattle.base_numbers.specs.Numbers.{most_nodes, most_table_urns}
use Rattle.base_lists.specs.Cuts.{stretch}
use Rattle.base_lists.specs.Tests.{all, no_two}
use Rattle.base_lists.specs.Numbers.{within}
use Rattle.base_lists.specs.Lists.{tabulate, joined}
use Rattle.theory_resolution.specs.Names.{Name}
use Rattle.urn_names.specs.Urn.{stored_name}
use Rattle.tree_sections.specs.Held.{node_from}
use Rattle.tree_forms.specs.Refusals.{grown}
use Rattle.tree_nodes.specs.Scan.{same_node}

-- the parent of the node at index i is 0, or a node of the same category before it
unfoldable pub under_at : List ℕ → List ℕ → ℕ → Bool
under_at category parent i =
    eqb (get_or parent i 0) 0 || (leb (get_or parent i 0) i && eqb (get_or category (get_or parent i 0 - 1) 0) (get_or category i 0))

-- each node after node m + 1 and up to node k has the node before it for its parent
unfoldable pub linked_by : List ℕ → ℕ → ℕ → Bool
linked_by parent m k = all (λ i. eqb (get_or parent i 0) i) (tabulate (λ j. m + 1 + j) (k - m - 1))

-- how many nodes are used, if the first m are, and then node k; none if not in order
unfoldable pub step_by : List ℕ → ℕ → ℕ → Option ℕ
step_by parent m k = cond (leb k m) (Some m) (cond (linked_by parent m k) (Some k) None)

-- a step from so many, if there are so many
abbrev pub after : (ℕ → Option ℕ) → Option ℕ → Option ℕ
after f None = None
after f (Some m) = f m

-- how many nodes are used, if the first m are, and then those with these numbers
unfoldable pub scan_by : List ℕ → ℕ → List ℕ → Option ℕ
scan_by parent m [] = Some m
scan_by parent m (k ∷ ks) = after (λ r. scan_by parent r ks) (step_by parent m k)

-- it is so many
abbrev pub so_many : ℕ → Option ℕ → Bool
so_many n None = false
so_many n (Some m) = eqb m n

-- the tests of 21, by the arrays
unfoldable pub grown_by : (t category parent at len number : List ℕ) → ℕ → ℕ → ℕ → Bool
grown_by t category parent at len number categories nodes numbers =
    all (λ x. ltb x categories) (tabulate (λ i. get_or category i 0) nodes)
    && (all (within 1 nodes) (tabulate (λ i. get_or number i 0) numbers)
    && (all (under_at category parent) (tabulate (λ i. i) nodes)
    && (no_two same_node (tabulate (node_from t category parent at len) nodes)
    && so_many nodes (scan_by parent 0 (tabulate (λ i. get_or number i 0) numbers)))))

-- every last name has its form, and there are at most 64
unfoldable pub lasts_formed : (t at len : List ℕ) → ℕ → Bool
lasts_formed t at len n = leb n most_nodes && all stored_name (tabulate (stretch t at len) n)

-- the tests of 21 by arrays of 64 nodes and 256 numbers; they fail for more
unfoldable pub grown_in : (t category parent at len number : List ℕ) → ℕ → ℕ → ℕ → Bool
grown_in t category parent at len number categories nodes numbers =
    leb nodes most_nodes && (leb numbers most_table_urns && grown_by t category parent at len number categories nodes numbers)

-- r says whether the tree that the arrays hold is not refused with 21, whatever its categories are called
abbrev pub Judges : (t category parent at len number : List ℕ) (categories nodes numbers : ℕ) → Bool → Type 0
Judges t category parent at len number categories nodes numbers r =
    (names : List Name) (ss : List (List ℕ)) → length names ≡ categories → nodes ≤ most_nodes → numbers ≤ most_table_urns → tabulate (λ i. get_or number i 0) numbers ≡ joined ss
    → r ≡ grown (record { names = names; nodes = tabulate (node_from t category parent at len) nodes; signals = ss })
