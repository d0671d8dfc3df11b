-- The refusal of a tree without its old form, as code can judge it: a law says that it is the same. 12 does not occur.
use Rattle.std.specs.Prelude.{ℕ, Bool, cond, ◌&&◌, List, length, leb, eqb}
use Rattle.base_numbers.specs.Numbers.{bad_tree, most_urn_bytes, most_urn_parts, table_bad_category, table_bad_form, table_out_of_range}
use Rattle.base_lists.specs.Tests.{all, any, no_two}
use Rattle.base_lists.specs.Lists.{tabulate}
use Rattle.theory_resolution.specs.Names.{Name, same_name}
use Rattle.theory_resolution.specs.Table.{Table}
use Rattle.table_places.specs.Verdict.{verdict}
use Rattle.tree_sections.specs.Tree.{Tree}
use Rattle.tree_forms.specs.Meaning.{table_of_tree, urn_text}
use Rattle.tree_forms.specs.Refusals.{named, grown}

-- 6: no URN of the old form is longer than 255 bytes
unfoldable pub short_in : List Name → Table → Bool
short_in names T = all (all (λ u. leb (length (urn_text names u)) most_urn_bytes)) T.signals

-- 7: no URN has over 8 parts
unfoldable pub few_parts : Table → Bool
few_parts T = all (all (λ u. leb (length u.path) most_urn_parts)) T.signals

-- some signal has a URN of category c
abbrev pub used_by : Table → ℕ → Bool
used_by T c = any (any (λ u. eqb u.cat c)) T.signals

-- 8: no category is listed twice, and each is used by a signal
unfoldable pub used_once : List Name → Table → Bool
used_once names T = no_two same_name names && all (used_by T) (tabulate (λ c. c) (length names))

-- the first of 6 to 12 that holds of a table with these categories' names, or 0
unfoldable pub meant : List Name → Table → ℕ
meant names T = cond (short_in names T) (cond (few_parts T) (cond (used_once names T) (verdict T) table_bad_category) table_bad_form) table_out_of_range

-- the refusal of a tree
unfoldable pub tree_direct : Tree → ℕ
tree_direct x = cond (named x) (cond (grown x) (meant x.names (table_of_tree x)) bad_tree) table_bad_form
