use Rattle.std.proofs.Common.{◌≡◌, ◌<◌, ℕ, length, get_or}
use Rattle.base_numbers.specs.Numbers.{most_nodes}
use mathlib.Core.Bool.{false}
use Rattle.table_kept.specs.Marks.{precedes}
use Rattle.table_kept.proofs.marks.before.Given as goal

abbrev pub invariant-loop-k : goal.invariant-loop-k
invariant-loop-k l = (length l.may ≡ most_nodes) × ((j : ℕ) → j < l.k → get_or l.may j false ≡ precedes l.d.parent l.d.category l.c l.node j)
