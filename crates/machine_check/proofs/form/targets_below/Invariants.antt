use mathlib.Core.Path.{◌≡◌}
use lib.Dec.{ltb}
use Rattle.base_lists.specs.Lists.{all_below}
use Rattle.machine_check.specs.Checks.{below_by}
use Rattle.machine_check.proofs.form.targets_below.Given as goal

abbrev pub invariant-loop-t : goal.invariant-loop-t
invariant-loop-t l = ltb l.most l.n ≡ all_below l.t-index (below_by l.categories l.im l.j)
