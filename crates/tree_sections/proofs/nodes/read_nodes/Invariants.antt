use Prim.Native.Nat.{◌-◌}
use mathlib.Core.Path.{◌≡◌}
use Rattle.base_lists.specs.Lists.{tabulate}
use Rattle.table_sections.specs.Stored.{times}
use Rattle.table_sections.proofs.Readings.{after}
use Rattle.tree_sections.specs.Tree.{node}
use Rattle.tree_sections.specs.Held.{node_from}
use Rattle.tree_sections.proofs.nodes.read_nodes.Given as goal

abbrev pub invariant-loop-i : goal.invariant-loop-i
invariant-loop-i l = times (node l.t) l.n l.from ≡ after (tabulate (node_from l.t l.category l.parent l.at l.len) l.i) (λ x. x) (times (node l.t) (l.n - l.i) l.p)
