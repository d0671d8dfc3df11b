use Rattle.std.proofs.Common.{◌≡◌}
use Rattle.base_lists.specs.Lists.{over}
use Rattle.theory_minimal.specs.Proposal.{small}
use Rattle.small_image.specs.Small.{small_states}
use Rattle.small_rounds.specs.Rows.{machine_in}
use Rattle.small_write.proofs.rows.put_rows.Given as goal

abbrev pub invariant-loop-c : goal.invariant-loop-c
invariant-loop-c l = l.out ≡ over (small_states (small (machine_in l.m.rows) l.p) l.c) l.initial.out
