use mathlib.Core.Path.{◌≡◌}
use mathlib.Core.Bool.{true}
use Rattle.base_lists.specs.Lists.{all_below}
use Rattle.machine_symbols.specs.Steps.{next_state}
use Rattle.machine_check.specs.Checks.{target_right_by}
use Rattle.machine_check.proofs.rows.row_right.Given as goal

abbrev pub invariant-loop-k : goal.invariant-loop-k
invariant-loop-k l = all_below l.k (target_right_by (next_state l.d.rows l.d.parent l.d.inner l.d.signals l.symbols.bytes) l.d.categories l.im l.j) ≡ true
