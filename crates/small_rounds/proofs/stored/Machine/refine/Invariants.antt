use Rattle.base_lists.proofs.Filled.{Filled}
use Rattle.theory_minimal.specs.Refine.{leader, same_row}
use Rattle.small_rounds.specs.Rows.{machine_in}
use Rattle.small_rounds.proofs.stored.Machine.refine.Given as goal

abbrev pub invariant-loop-i : goal.invariant-loop-i
invariant-loop-i l = Filled (leader (same_row (machine_in l.self.rows) l.p)) l.q l.i
