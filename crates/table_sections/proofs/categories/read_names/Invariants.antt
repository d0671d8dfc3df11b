use Prim.Native.Nat.{◌≤◌, ◌-◌}
use mathlib.Core.Path.{◌≡◌}
use lib.ListN.{length}
use Rattle.base_numbers.specs.Numbers.{most_name_bytes, most_table_bytes}
use Rattle.base_lists.specs.Cuts.{stretch}
use Rattle.base_lists.specs.Lists.{tabulate}
use Rattle.table_sections.specs.Stored.{text, times}
use Rattle.table_sections.specs.Held.{Padded}
use Rattle.table_sections.proofs.Readings.{after}
use Rattle.table_sections.proofs.categories.read_names.Given as goal

abbrev pub invariant-loop-i : goal.invariant-loop-i
invariant-loop-i l = length l.t ≤ most_table_bytes → Padded 8 0 l.initial.at → Padded 8 0 l.initial.len → Padded 8 l.i l.at
    × Padded 8 l.i l.len × (times (text most_name_bytes l.t) l.n l.from ≡ after (tabulate (stretch l.t l.at l.len) l.i) (λ x. x) (times (text most_name_bytes l.t) (l.n - l.i) l.p))
