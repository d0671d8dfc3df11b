use Rattle.base_lists.specs.Lists.{tabulate, each}
use Prim.Native.Nat.{◌≤◌, ◌+◌, ◌*◌}
use mathlib.Core.Path.{◌≡◌}
use Rattle.tree_forms.specs.Bytes.{section}
use Rattle.tree_sections.specs.Held.{number_at}
use Rattle.tree_bytes.specs.Laid.{Puts, of_signal}
use Rattle.tree_to_table.specs.Urns.{urn_bytes}
use Rattle.tree_to_table.proofs.urns.put_signals.Given as goal

abbrev pub invariant-loop-s : goal.invariant-loop-s
invariant-loop-s l = let d = l.d in let z = d.sections in (l.w.at ≤ l.initial.w.at + 700000 * l.s) × (l.w.buf.ghost_name ≡ l.initial.w.buf.ghost_name)
    × Puts l.initial.w.buf.now l.w.buf.now l.initial.w.at (each (section (urn_bytes l.t z.name_at z.name_len z.category z.parent z.at z.len d.size d.depth))
    (tabulate (λ s. of_signal s (tabulate (number_at z.signal z.number) z.counts.numbers)) l.s)) l.w.at
