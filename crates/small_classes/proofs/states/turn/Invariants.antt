use Rattle.small_rounds.specs.Rows.{machine_in}
use Rattle.small_classes.specs.Found.{Turned}
use Rattle.small_classes.proofs.states.turn.Given as goal

abbrev pub invariant-loop-s : goal.invariant-loop-s
invariant-loop-s l = Turned (machine_in l.m.rows) l.initial.list l.count l.j l.s l.list l.seen l.found
