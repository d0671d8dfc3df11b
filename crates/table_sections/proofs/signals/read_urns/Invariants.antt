use Prim.Native.Nat.{◌-◌}
use mathlib.Core.Path.{◌≡◌}
use Rattle.base_numbers.specs.Numbers.{most_urn_bytes}
use Rattle.base_lists.specs.Lists.{tabulate}
use Rattle.table_sections.specs.Stored.{text, times}
use Rattle.table_sections.specs.Held.{tag, urn_at, Room}
use Rattle.table_sections.proofs.Readings.{after}
use Rattle.table_sections.proofs.signals.read_urns.Given as goal

abbrev pub invariant-loop-i : goal.invariant-loop-i
invariant-loop-i l = (Room l.initial.at l.initial.len l.initial.signal → Room l.at l.len l.signal)
    × (Room l.initial.at l.initial.len l.initial.signal → after (tabulate (urn_at l.t l.initial.signal l.initial.at l.initial.len) l.start) (tag l.s) (times (text most_urn_bytes l.t) (l.end - l.start) l.from)
    ≡ after (tabulate (urn_at l.t l.signal l.at l.len) l.i) (tag l.s) (times (text most_urn_bytes l.t) (l.end - l.i) l.p))
