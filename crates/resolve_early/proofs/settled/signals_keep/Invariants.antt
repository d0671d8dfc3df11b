use mathlib.Core.Path.{◌≡◌}
use mathlib.Core.Bool.{true}
use Rattle.base_lists.specs.Lists.{all_below}
use Rattle.resolve_early.specs.SettledBy.{signal_keeps}
use Rattle.resolve_early.proofs.settled.signals_keep.Given as goal

abbrev pub invariant-loop-s : goal.invariant-loop-s
invariant-loop-s l = all_below l.s (signal_keeps l.d.rows l.d.parent l.d.inner l.d.signals l.st l.c) ≡ true
