use Rattle.base_lists.specs.Lists.{tabulate, each}
use Prim.Native.Nat.{◌≤◌, ◌+◌}
use mathlib.Core.Path.{◌≡◌}
use Rattle.tree_forms.specs.Bytes.{number_bytes}
use Rattle.tree_sections.specs.Held.{number_at}
use Rattle.tree_bytes.specs.Laid.{Puts, of_signal}
use Rattle.tree_from_table.proofs.signals.put_numbers.Given as goal

abbrev pub invariant-loop-i : goal.invariant-loop-i
invariant-loop-i l = (l.w.at ≤ l.initial.w.at + l.i) × (l.w.buf.ghost_name ≡ l.initial.w.buf.ghost_name)
    × Puts l.initial.w.buf.now l.w.buf.now l.initial.w.at (each number_bytes (of_signal l.s (tabulate (number_at l.signal l.number) l.i))) l.w.at
