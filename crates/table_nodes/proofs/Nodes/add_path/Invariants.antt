use Prim.Native.Nat.{◌≤◌, ◌<◌, ◌-◌}
use mathlib.Core.Path.{◌≡◌}
use mathlib.Core.List.{List}
use lib.ListN.{length, get_or}
use Rattle.std.specs.Prelude.{Some}
use Rattle.base_numbers.specs.Numbers.{most_nodes}
use Rattle.theory_resolution.specs.Table.{Urn}
use Rattle.table_nodes.proofs.NodeArrays.{PathDone}
use Rattle.table_nodes.proofs.Nodes.add_path.Given as goal

abbrev pub invariant-loop-i : goal.invariant-loop-i
invariant-loop-i l = (l.i ≤ length l.w) × (l.i < length l.w → get_or l.w l.i 0 ≡ 58)
    × (l.r.node ≤ most_nodes) × (l.self.count ≤ most_nodes) × ((ns : List Urn) → PathDone l.t l.w l.c ns l.initial.self.category l.initial.self.parent l.initial.self.at l.initial.self.len l.initial.self.count l.initial.i (Some l.initial.r)
    → PathDone l.t l.w l.c ns l.self.category l.self.parent l.self.at l.self.len l.self.count l.i (Some l.r))

abbrev pub decreases-loop-i : goal.decreases-loop-i
decreases-loop-i l = length l.w - l.i
