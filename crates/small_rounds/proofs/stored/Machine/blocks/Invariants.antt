use Rattle.std.proofs.Common.{◌≡◌}
use Rattle.theory_minimal.specs.Refine.{refined}
use Rattle.small_rounds.specs.Rows.{machine_in}
use Rattle.small_rounds.proofs.stored.Machine.blocks.Given as goal

abbrev pub invariant-loop : goal.invariant-loop
invariant-loop l = l.p ≡ refined (machine_in l.self.rows) l.counter
