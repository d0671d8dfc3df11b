use Rattle.base_lists.proofs.Filled.{Filled}
use Rattle.small_rounds.specs.Rows.{machine_in}
use Rattle.small_rounds.proofs.stored.Machine.signals.Given as goal

abbrev pub invariant-loop-i : goal.invariant-loop-i
invariant-loop-i l = Filled (machine_in l.self.rows).signal l.p l.i
