use mathlib.Core.Path.{◌≡◌}
use mathlib.Core.Bool.{true}
use Rattle.base_lists.specs.Lists.{all_below}
use Rattle.node_step.specs.StatusByte.{fits_by}
use Rattle.machine_check.specs.Checks.{state_formed_by}
use Rattle.machine_check.proofs.form.states_formed.Given as goal

abbrev pub invariant-loop-j : goal.invariant-loop-j
invariant-loop-j l = all_below l.j (state_formed_by (fits_by l.d.rows l.d.parent l.d.inner l.d.category l.d.nodes) l.d.signals l.categories l.im) ≡ true
