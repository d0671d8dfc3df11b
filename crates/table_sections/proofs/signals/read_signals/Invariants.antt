use Prim.Native.Nat.{◌≤◌, ◌-◌, ◌*◌}
use mathlib.Core.Path.{◌≡◌}
use mathlib.Core.List.{◌++◌}
use Rattle.base_numbers.specs.Numbers.{most_urn_bytes}
use Rattle.base_lists.specs.Lists.{tabulate}
use Rattle.table_sections.specs.Stored.{text, times, counted}
use Rattle.table_sections.specs.Held.{tagged_from, urn_at, Room, map_read}
use Rattle.table_sections.proofs.signals.read_signals.Given as goal

abbrev pub invariant-loop-s : goal.invariant-loop-s
invariant-loop-s l = (l.m ≤ 8 * l.s) × (Room l.initial.at l.initial.len l.initial.signal → Room l.at l.len l.signal)
    × (Room l.initial.at l.initial.len l.initial.signal → map_read (tagged_from 0) (times (counted 0 8 (text most_urn_bytes l.t) l.t) l.n l.from)
    ≡ map_read (λ ss. tabulate (urn_at l.t l.signal l.at l.len) l.m ++ tagged_from l.s ss) (times (counted 0 8 (text most_urn_bytes l.t) l.t) (l.n - l.s) l.p))
