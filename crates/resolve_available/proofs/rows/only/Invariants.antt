use Rattle.resolve_available.proofs.RowLaws.{Filled}
use Rattle.resolve_available.proofs.rows.only.Given as goal

abbrev pub invariant-loop-s : goal.invariant-loop-s
invariant-loop-s l = Filled l.set l.rows l.kept l.s
