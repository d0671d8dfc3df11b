use mathlib.Core.Path.{◌≡◌}
use mathlib.Core.Bool.{true}
use Rattle.base_lists.specs.Lists.{all_below}
use Rattle.node_step.specs.StatusByte.{fits_by}
use Rattle.machine_check.specs.Checks.{status_formed_by}
use Rattle.machine_check.proofs.form.statuses_formed.Given as goal

abbrev pub invariant-loop-c : goal.invariant-loop-c
invariant-loop-c l = all_below l.c (status_formed_by (fits_by l.d.rows l.d.parent l.d.inner l.d.category l.d.nodes) l.categories l.im l.j) ≡ true
