use Rattle.base_lists.specs.Lists.{tabulate, each}
use Prim.Native.Nat.{◌≤◌, ◌+◌, ◌*◌}
use mathlib.Core.Path.{◌≡◌}
use Rattle.tree_forms.specs.Bytes.{node_bytes}
use Rattle.tree_bytes.specs.Laid.{Puts}
use Rattle.tree_from_table.specs.Stored.{stored_node, most_node}
use Rattle.tree_from_table.proofs.nodes.put_nodes.Given as goal

abbrev pub invariant-loop-i : goal.invariant-loop-i
invariant-loop-i l = (l.w.at ≤ l.initial.w.at + most_node * l.i) × (l.w.buf.ghost_name ≡ l.initial.w.buf.ghost_name)
    × Puts l.initial.w.buf.now l.w.buf.now l.initial.w.at (each node_bytes (tabulate (stored_node l.t l.d.category l.d.parent l.d.at l.d.len) l.i)) l.w.at
