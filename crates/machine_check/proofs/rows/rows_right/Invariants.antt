use mathlib.Core.Path.{◌≡◌}
use mathlib.Core.Bool.{true}
use Rattle.base_lists.specs.Lists.{all_below}
use Rattle.machine_symbols.specs.Steps.{next_state}
use Rattle.machine_check.specs.Checks.{row_right_by}
use Rattle.machine_check.proofs.rows.rows_right.Given as goal

abbrev pub invariant-loop-j : goal.invariant-loop-j
invariant-loop-j l = all_below l.j (row_right_by (next_state l.d.rows l.d.parent l.d.inner l.d.signals l.symbols.bytes) l.symbols.count l.d.categories l.im) ≡ true
