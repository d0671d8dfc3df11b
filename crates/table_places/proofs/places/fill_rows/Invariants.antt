use Prim.Native.Nat.{ℕ, ◌<◌, ◌-◌}
use mathlib.Core.Path.{◌≡◌}
use mathlib.Core.Bool.{true}
use lib.ListN.{length, get_or}
use Rattle.base_numbers.specs.Numbers.{most_signals}
use Rattle.base_lists.specs.Tests.{no_two}
use Rattle.base_lists.specs.Lists.{tabulate}
use Rattle.table_places.specs.Slots.{key_at, same_key, node_in, row_in, Fillable}
use Rattle.table_places.specs.Filled.{rows_from}
use Rattle.table_places.proofs.places.fill_rows.Given as goal

abbrev pub invariant-loop-i : goal.invariant-loop-i
invariant-loop-i l = (Fillable l.signal l.category l.node l.initial.rows l.m → (length l.rows ≡ most_signals) × (no_two same_key (tabulate (key_at l.signal l.category) l.i) ≡ true)
    × ((s c : ℕ) → node_in (key_at l.signal l.category) l.node s c l.i < 256) × ((s : ℕ) → s < most_signals → get_or l.rows s 0 ≡ row_in (key_at l.signal l.category) l.node s l.i))
    × (rows_from l.signal l.category l.node 0 l.m l.initial.rows ≡ rows_from l.signal l.category l.node l.i (l.m - l.i) l.rows)
