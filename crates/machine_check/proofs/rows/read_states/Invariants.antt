use Rattle.machine_check.proofs.ImageLaws.{StatusesTo}
use Rattle.machine_check.proofs.rows.read_states.Given as goal

abbrev pub invariant-loop-j : goal.invariant-loop-j
invariant-loop-j l = StatusesTo l.categories l.im l.statuses l.j
