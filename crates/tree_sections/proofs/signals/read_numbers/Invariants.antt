use Prim.Native.Nat.{◌-◌}
use mathlib.Core.Path.{◌≡◌}
use Rattle.base_lists.specs.Lists.{tabulate}
use Rattle.table_sections.specs.Stored.{times}
use Rattle.table_sections.specs.Held.{tag}
use Rattle.table_sections.proofs.Readings.{after}
use Rattle.tree_sections.specs.Held.{number_at}
use Rattle.tree_sections.specs.Tree.{any_byte}
use Rattle.tree_sections.proofs.signals.read_numbers.Given as goal

abbrev pub invariant-loop-i : goal.invariant-loop-i
invariant-loop-i l = after (tabulate (number_at l.initial.signal l.initial.number) l.start) (tag l.s) (times (any_byte l.t) (l.end - l.start) l.from)
    ≡ after (tabulate (number_at l.signal l.number) l.i) (tag l.s) (times (any_byte l.t) (l.end - l.i) l.p)
