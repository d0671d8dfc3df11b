use Prim.Native.Nat.{◌≤◌, ◌-◌, ◌*◌}
use mathlib.Core.Path.{◌≡◌}
use mathlib.Core.List.{◌++◌}
use Rattle.base_lists.specs.Lists.{tabulate}
use Rattle.table_sections.specs.Stored.{times, counted}
use Rattle.table_sections.specs.Held.{tagged_from, map_read}
use Rattle.tree_sections.specs.Held.{number_at}
use Rattle.tree_sections.specs.Tree.{any_byte}
use Rattle.tree_sections.proofs.signals.read_signals.Given as goal

abbrev pub invariant-loop-s : goal.invariant-loop-s
invariant-loop-s l = (l.m ≤ 8 * l.s)
    × (map_read (tagged_from 0) (times (counted 0 8 (any_byte l.t) l.t) l.n l.from)
    ≡ map_read (λ ss. tabulate (number_at l.signal l.number) l.m ++ tagged_from l.s ss) (times (counted 0 8 (any_byte l.t) l.t) (l.n - l.s) l.p))
