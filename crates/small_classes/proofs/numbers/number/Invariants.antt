use Rattle.std.proofs.Common.{◌≡◌}
use Rattle.base_lists.specs.Search.{count}
use Rattle.base_lists.proofs.Filled.{Filled}
use Rattle.theory_minimal.specs.Refine.{is_first, block_number}
use Rattle.small_classes.proofs.numbers.number.Given as goal

abbrev pub invariant-loop-i : goal.invariant-loop-i
invariant-loop-i l = (l.next ≡ count (is_first l.b) l.i) × Filled (block_number l.b) l.c l.i
