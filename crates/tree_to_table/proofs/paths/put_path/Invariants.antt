use Prim.Native.Nat.{◌≤◌, ◌+◌, ◌*◌}
use mathlib.Core.Path.{◌≡◌}
use Rattle.base_lists.specs.Lists.{tabulate, each}
use Rattle.tree_bytes.specs.Laid.{Puts}
use Rattle.tree_to_table.specs.Urns.{part_bytes}
use Rattle.tree_to_table.proofs.paths.put_path.Given as goal

abbrev pub invariant-loop-d : goal.invariant-loop-d
invariant-loop-d l = let d = l.d in (l.w.at ≤ l.initial.w.at + 256 * d) × (l.w.buf.ghost_name ≡ l.initial.w.buf.ghost_name)
    × Puts l.initial.w.buf.now l.w.buf.now l.initial.w.at (each (part_bytes l.t l.s.parent l.s.at l.s.len l.k l.n) (tabulate (λ d. d) d)) l.w.at
