use Rattle.base_lists.specs.Lists.{tabulate, each}
use Prim.Native.Nat.{◌≤◌, ◌+◌, ◌*◌}
use mathlib.Core.Path.{◌≡◌}
use Rattle.tree_sections.specs.Held.{number_at}
use Rattle.tree_bytes.specs.Laid.{Puts, of_signal}
use Rattle.tree_to_table.specs.Urns.{urn_bytes}
use Rattle.tree_to_table.proofs.urns.put_urns.Given as goal

abbrev pub invariant-loop-i : goal.invariant-loop-i
invariant-loop-i l = let d = l.d in let s = d.sections in (l.w.at ≤ l.initial.w.at + 2400 * l.i) × (l.w.buf.ghost_name ≡ l.initial.w.buf.ghost_name)
    × Puts l.initial.w.buf.now l.w.buf.now l.initial.w.at (each (urn_bytes l.t s.name_at s.name_len s.category s.parent s.at s.len d.size d.depth)
    (of_signal l.s (tabulate (number_at s.signal s.number) l.i))) l.w.at
