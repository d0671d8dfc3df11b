use lib.ListN.{drop}
use Rattle.tree_from_table.proofs.LastNames.{Whole}
use Rattle.tree_from_table.proofs.nodes.last_start.Given as goal

abbrev pub invariant-loop-i : goal.invariant-loop-i
invariant-loop-i l = Whole (drop l.i l.w)
