use Prim.Native.Nat.{ℕ, ◌≤◌, ◌<◌, ◌-◌, ◌+◌, ◌*◌}
use mathlib.Core.Path.{◌≡◌}
use mathlib.Core.Bool.{true}
use lib.ListN.{length, get_or}
use Rattle.base_numbers.specs.Numbers.{most_table_urns}
use Rattle.base_lists.specs.Tests.{no_two}
use Rattle.base_lists.specs.Lists.{tabulate}
use Rattle.table_places.specs.Slots.{InRange, key_at, same_key, slot_in}
use Rattle.table_places.specs.Filled.{slots_from}
use Rattle.table_places.proofs.signals.fill_slots.Given as goal

abbrev pub invariant-loop-i : goal.invariant-loop-i
invariant-loop-i l = (length l.slots ≡ most_table_urns) × ((j : ℕ) → get_or l.slots j 0 ≤ most_table_urns)
    × (InRange l.signal l.category l.m → (no_two same_key (tabulate (key_at l.signal l.category) l.i) ≡ true)
    × ((s c : ℕ) → c < 8 → get_or l.slots (8 * s + c) 0 ≡ slot_in (key_at l.signal l.category) s c l.i))
    × (slots_from l.signal l.category 0 l.m l.initial.slots ≡ slots_from l.signal l.category l.i (l.m - l.i) l.slots)
