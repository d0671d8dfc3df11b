use Rattle.table_kept.specs.Marks.{next_in}
use Rattle.table_kept.proofs.SearchLaws.{NoneTo}
use Rattle.table_kept.proofs.WayLaws.{leads}
use Rattle.table_kept.proofs.way.node_to.Given as goal

abbrev pub invariant-loop-k : goal.invariant-loop-k
invariant-loop-k l = NoneTo (leads (next_in l.all) l.nodes l.s l.x) l.nodes l.k
