-- With which number a table in the tree form is refused.
use Rattle.std.specs.Prelude.{ℕ, ◌-◌, Bool, cond, ◌&&◌, ◌||◌, List, [], length, leb, ltb, eqb}
use Rattle.base_numbers.specs.Numbers.{bad_tree, most_urn_bytes, table_bad_form, table_out_of_range}
use Rattle.base_lists.specs.Tests.{all}
use Rattle.base_lists.specs.Numbers.{within}
use Rattle.base_lists.specs.Lists.{same_list, all_below as forall}
use Rattle.theory_resolution.specs.Table.{Table}
use Rattle.theory_resolution.specs.Nodes.{same_urn, nodes}
use Rattle.urn_names.specs.Urn.{stored_name}
use Rattle.table_sections.specs.Stored.{Read, fault, got, Stored}
use Rattle.table_decode.specs.Tables.{judged}
use Rattle.tree_sections.specs.Tree.{Node, node_of, Tree, tree, tree_sections}
use Rattle.tree_forms.specs.Meaning.{urns_of, table_of_tree, stored_of}

-- 7: every category name and every node's last name has its form, without capital letters
unfoldable pub named : Tree → Bool
named x = all stored_name x.names && all (λ n. stored_name n.last) x.nodes

-- 21: every category number and every node number is there
unfoldable pub numbered : Tree → Bool
numbered x = all (λ n. ltb n.category (length x.names)) x.nodes && all (all (within 1 (length x.nodes))) x.signals

-- the parent of the node at index i is 0, or a node of the same category before it
unfoldable pub parented : List Node → ℕ → Bool
parented ns i =
    eqb (node_of ns i).parent 0 || (leb (node_of ns i).parent i && eqb (node_of ns ((node_of ns i).parent - 1)).category (node_of ns i).category)

-- 21: every node's parent is so
unfoldable pub all_parented : List Node → Bool
all_parented ns = forall (length ns) (parented ns)

-- 21: the nodes are those of the table that the tree says, in the same order: so none is unused or repeated, and none comes too early
unfoldable pub in_order : Tree → Bool
in_order x = same_list same_urn (urns_of x) (nodes (table_of_tree x))

-- not 21
unfoldable pub grown : Tree → Bool
grown x = numbered x && (all_parented x.nodes && in_order x)

-- 6: no URN of the old form is longer than 255 bytes
unfoldable pub short : Stored → Bool
short s = all (all (λ u. leb (length u) most_urn_bytes)) s.signals

-- the first of 7, 21, 6 and 7 to 12 that holds of a tree, or 0; the last ones by the old form, over 8 parts among them
unfoldable pub tree_judged : Tree → ℕ
tree_judged x = cond (named x) (cond (grown x) (cond (short (stored_of x)) (judged (stored_of x)) table_out_of_range) bad_tree) table_bad_form

unfoldable pub tree_judged_read : Read Tree → ℕ
tree_judged_read (fault k) = k
tree_judged_read (got x at) = tree_judged x

-- the number with which a table in the tree form is refused, or 0: well-formed
unfoldable pub tree_refusal : List ℕ → ℕ
tree_refusal t = tree_judged_read (tree_sections t)

-- the table that the bytes say in the tree form; one without categories and signals where they cannot be read
unfoldable pub tree_table_read : Read Tree → Table
tree_table_read (fault k) = record { cats = 0; signals = [] }
tree_table_read (got x at) = table_of_tree x

unfoldable pub tree_table : List ℕ → Table
tree_table t = tree_table_read (tree t)
