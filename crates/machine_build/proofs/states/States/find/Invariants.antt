use Rattle.machine_build.proofs.KeptLaws.{Passed}
use Rattle.machine_build.proofs.states.States.find.Given as goal

abbrev pub invariant-loop-j : goal.invariant-loop-j
invariant-loop-j l = Passed l.self.kept l.st l.j
