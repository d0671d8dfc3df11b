use Rattle.table_kept.specs.Marks.{next_in}
use Rattle.table_kept.proofs.SearchLaws.{NoneTo}
use Rattle.table_kept.proofs.WayLaws.{leads_at}
use Rattle.table_kept.proofs.way.signal_before.Given as goal

abbrev pub invariant-loop-a : goal.invariant-loop-a
invariant-loop-a l = NoneTo (leads_at (next_in l.all) l.nodes l.h l.x) l.h.count l.a
