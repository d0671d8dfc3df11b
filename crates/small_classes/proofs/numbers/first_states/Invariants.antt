use Rattle.base_lists.proofs.Filled.{Filled}
use Rattle.theory_minimal.specs.Refine.{leader, same_class}
use Rattle.small_classes.proofs.numbers.first_states.Given as goal

abbrev pub invariant-loop-i : goal.invariant-loop-i
invariant-loop-i l = Filled (leader (same_class l.p)) l.q l.i
