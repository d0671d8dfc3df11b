use Prim.Native.Nat.{◌≤◌, ◌+◌, ◌*◌}
use mathlib.Core.Path.{◌≡◌}
use Rattle.base_lists.specs.Cuts.{stretch}
use Rattle.base_lists.specs.Lists.{tabulate, each}
use Rattle.tree_forms.specs.Bytes.{text_bytes}
use Rattle.tree_bytes.specs.Laid.{Wrote}
use Rattle.tree_bytes.proofs.sections.names.Given as goal

abbrev pub invariant-loop-i : goal.invariant-loop-i
invariant-loop-i l = (l.w.at ≤ 1 + 256 * l.i) × (l.w.buf.ghost_name ≡ l.initial.w.buf.ghost_name)
    × Wrote l.initial.w.buf.now l.w.buf.now l.initial.w.at (each text_bytes (tabulate (stretch l.t l.name_at l.name_len) l.i)) l.w.at
