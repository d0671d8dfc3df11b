-- The examples hold, by computing.
use mathlib.Core.Path.{◌≡◌, refl}
use mathlib.Core.List.{[], ◌∷◌, map}
use lib.ListN.{length}
use Rattle.base_lists.specs.Lists.{each, all_below as forall}
use Rattle.base_lists.specs.Cuts.{up_to, past}
use Rattle.base_lists.specs.Tests.{all, any, no_two}
use Rattle.theory_resolution.specs.Nodes.{nodes}
use Rattle.base_text.specs.Text.{fields, on_first, after_colons}
use Rattle.urn_names.specs.Names.{label_byte, label_ok, name_ok}
use Rattle.urn_names.specs.Urn.{no_capital, stored_name, urn_ok}
use Rattle.table_sections.specs.Stored.{and_then, byte_in, text, times, counted, stored_from, stored}
use Rattle.table_decode.specs.Tables.{formed, uses, listed, judged}
use Rattle.table_names.specs.Categories.{is_listed}
use Rattle.table_places.specs.Verdict.{single, zero_silent, distinct, few_nodes, verdict}
use Rattle.tree_sections.specs.Tree.{node, signals_from, nodes_from, tree}
use Rattle.tree_forms.specs.Bytes.{tree_bytes, stored_bytes}
use Rattle.tree_forms.specs.Meaning.{urns_after, tree_in, stored_in}
use Rattle.tree_forms.specs.Refusals.{named, numbered, parented, all_parented, in_order, grown, short, tree_judged, tree_judged_read, tree_refusal}
use Rattle.tree_forms.specs.Conversion.{tree_form_read, tree_form, old_form_read, old_form}
use Rattle.tree_forms.specs.Examples.{fine, ungrown, refused_trees, old_t1, tree_t1}

fine-judged : tree_judged fine ≡ 0
unfolding nodes forall all label_byte label_ok up_to past name_ok fields on_first no_capital stored_name urn_ok any no_two formed uses is_listed
    listed single zero_silent distinct few_nodes verdict judged urns_after tree_in after_colons stored_in named numbered parented all_parented
    in_order grown short tree_judged
fine-judged = refl

-- each of the others gives 21
each-21 : map tree_judged ungrown ≡ 21 ∷ 21 ∷ 21 ∷ 21 ∷ 21 ∷ 21 ∷ 21 ∷ 21 ∷ 21 ∷ 21 ∷ []
unfolding nodes forall all label_byte label_ok up_to past name_ok fields on_first no_capital stored_name urn_ok any no_two formed uses is_listed
    listed single zero_silent distinct few_nodes verdict judged urns_after tree_in after_colons stored_in named numbered parented all_parented
    in_order grown short tree_judged
each-21 = refl

-- each other number
each_number : map tree_refusal refused_trees ≡ 4 ∷ 5 ∷ 6 ∷ 7 ∷ 8 ∷ 9 ∷ 10 ∷ 11 ∷ []
unfolding nodes forall all label_byte label_ok up_to past name_ok fields on_first no_capital stored_name urn_ok any no_two formed uses is_listed
    listed single zero_silent distinct few_nodes verdict judged urns_after tree_in after_colons stored_in named numbered parented all_parented
    in_order grown short tree_judged tree_judged_read tree_refusal and_then byte_in text times counted stored_from stored node signals_from nodes_from tree each tree_bytes
each_number = refl

-- the bytes of the first come back through the old form
fine_back : tree_form (old_form (tree_bytes fine)) ≡ tree_bytes fine
unfolding nodes forall all label_byte label_ok up_to past name_ok fields on_first no_capital stored_name urn_ok any no_two formed uses is_listed
    listed single zero_silent distinct few_nodes verdict judged urns_after tree_in after_colons stored_in and_then byte_in text times counted
    stored_from stored node signals_from nodes_from tree each tree_bytes stored_bytes tree_form_read tree_form old_form_read old_form
fine_back = refl

-- T1 has 44 bytes in the old form and 37 in the tree form
old-length : length old_t1 ≡ 44
old-length = refl

tree-length : length tree_t1 ≡ 37
tree-length = refl

-- each is the other, converted
to-tree-T1 : tree_form old_t1 ≡ tree_t1
unfolding nodes forall all label_byte label_ok up_to past name_ok fields on_first no_capital stored_name urn_ok any no_two formed uses is_listed
    listed single zero_silent distinct few_nodes verdict judged urns_after tree_in after_colons stored_in and_then byte_in text times counted
    stored_from stored node signals_from nodes_from tree each tree_bytes stored_bytes tree_form_read tree_form old_form_read old_form
to-tree-T1 = refl

from-tree-T1 : old_form tree_t1 ≡ old_t1
unfolding nodes forall all label_byte label_ok up_to past name_ok fields on_first no_capital stored_name urn_ok any no_two formed uses is_listed
    listed single zero_silent distinct few_nodes verdict judged urns_after tree_in after_colons stored_in and_then byte_in text times counted
    stored_from stored node signals_from nodes_from tree each tree_bytes stored_bytes tree_form_read tree_form old_form_read old_form
from-tree-T1 = refl
