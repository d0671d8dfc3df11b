use Rattle.table_kept.proofs.SearchLaws.{NoneTo, lost_at}
use Rattle.table_kept.proofs.search.first_loss.Given as goal

abbrev pub invariant-loop-j : goal.invariant-loop-j
invariant-loop-j l = NoneTo (lost_at l.d.rows l.d.signals l.h l.c l.node) l.h.count l.j
