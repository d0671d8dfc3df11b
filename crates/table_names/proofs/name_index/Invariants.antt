use mathlib.Core.Path.{◌≡◌}
use mathlib.Core.Bool.{false}
use Rattle.base_lists.specs.Lists.{tabulate, member_by}
use Rattle.theory_resolution.specs.Names.{same_name}
use Rattle.node_search.specs.Arrays.{text_in}
use Rattle.table_names.proofs.name_index.Given as goal

abbrev pub invariant-loop-i : goal.invariant-loop-i
invariant-loop-i l = member_by same_name l.s (tabulate (text_in 8 l.t l.at l.len) l.i) ≡ false
