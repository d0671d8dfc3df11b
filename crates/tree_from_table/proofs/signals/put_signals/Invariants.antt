use Rattle.base_lists.specs.Lists.{tabulate, each}
use Prim.Native.Nat.{◌≤◌, ◌+◌, ◌*◌}
use mathlib.Core.Path.{◌≡◌}
use Rattle.tree_forms.specs.Bytes.{section, number_bytes}
use Rattle.tree_sections.specs.Held.{number_at}
use Rattle.tree_bytes.specs.Laid.{Puts, of_signal}
use Rattle.tree_from_table.specs.Stored.{most_numbers}
use Rattle.tree_from_table.proofs.signals.put_signals.Given as goal

abbrev pub invariant-loop-s : goal.invariant-loop-s
invariant-loop-s l = let s = l.s in (l.w.at ≤ l.initial.w.at + most_numbers * s) × (l.w.buf.ghost_name ≡ l.initial.w.buf.ghost_name)
    × Puts l.initial.w.buf.now l.w.buf.now l.initial.w.at
    (each (section number_bytes) (tabulate (λ s. of_signal s (tabulate (number_at l.signal l.number) l.m)) s)) l.w.at
