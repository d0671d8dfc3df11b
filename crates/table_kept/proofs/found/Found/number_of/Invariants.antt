use Rattle.table_kept.proofs.SearchLaws.{From}
use Rattle.table_kept.proofs.found.Found.number_of.Given as goal

abbrev pub invariant-loop-i : goal.invariant-loop-i
invariant-loop-i l = From l.self l.s l.i
