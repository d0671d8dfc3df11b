use mathlib.Core.Path.{◌≡◌}
use mathlib.Core.Bool.{false}
use Rattle.base_lists.specs.Lists.{tabulate, member_by}
use Rattle.theory_resolution.specs.Table.{urn}
use Rattle.theory_resolution.specs.Nodes.{same_urn}
use Rattle.base_text.specs.Text.{fields}
use Rattle.table_nodes.specs.Nodes.{node_urn}
use Rattle.table_nodes.proofs.Nodes.find.Given as goal

abbrev pub invariant-loop-i : goal.invariant-loop-i
invariant-loop-i l = member_by same_urn (urn l.c (fields 58 l.s)) (tabulate (node_urn l.t l.self.category l.self.at l.self.len) l.i) ≡ false
