use Rattle.std.proofs.Common.{◌≡◌, ◌+◌}
use Rattle.table_kept.specs.Marks.{next_in}
use Rattle.table_kept.specs.Held.{signals_in, nodes_in}
use Rattle.table_kept.proofs.WayLaws.{Passed}
use Rattle.table_kept.proofs.way.way_to.Given as goal

abbrev pub invariant-loop-left : goal.invariant-loop-left
invariant-loop-left l = (l.way.len + l.left ≡ l.j) × Passed (next_in l.all) l.nodes (signals_in l.h) l.j l.left l.at (nodes_in l.way)

abbrev pub decreases-loop-left : goal.decreases-loop-left
decreases-loop-left l = l.left
