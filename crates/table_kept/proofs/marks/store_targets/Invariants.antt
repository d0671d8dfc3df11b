use Rattle.std.proofs.Common.{◌≡◌, ◌<◌, ◌/◌, ◌%◌, ℕ, get_or}
use Rattle.base_numbers.specs.Numbers.{most_nodes}
use Rattle.table_kept.specs.Marks.{next_by}
use Rattle.table_kept.proofs.marks.store_targets.Given as goal

abbrev pub invariant-loop-i : goal.invariant-loop-i
invariant-loop-i l = (j : ℕ) → j < l.i → get_or l.all j 0 ≡ next_by l.d.rows l.d.parent l.d.category l.d.signals l.may (j / most_nodes) (j % most_nodes)
