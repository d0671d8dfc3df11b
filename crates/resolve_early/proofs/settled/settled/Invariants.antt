use mathlib.Core.Path.{◌≡◌}
use mathlib.Core.Bool.{true}
use Rattle.base_lists.specs.Lists.{all_below}
use Rattle.resolve_early.specs.SettledBy.{category_keeps}
use Rattle.resolve_early.proofs.settled.settled.Given as goal

abbrev pub invariant-loop-c : goal.invariant-loop-c
invariant-loop-c l = all_below l.c (category_keeps l.d.rows l.d.parent l.d.inner l.d.signals l.st) ≡ true
