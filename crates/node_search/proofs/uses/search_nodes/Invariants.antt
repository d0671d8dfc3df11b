use Rattle.base_text.specs.Text.{lowered}
use Prim.Native.Nat.{◌*◌, ◌-◌, ◌≤◌, min}
use Rattle.base_numbers.specs.Numbers.{most_nodes}
use mathlib.Core.Path.{◌≡◌}
use mathlib.Core.Bool.{false}
use Rattle.node_search.specs.Search.{nothing, search_from}
use Rattle.node_search.proofs.uses.search_nodes.Given as goal

abbrev pub invariant-loop-i : goal.invariant-loop-i
invariant-loop-i l = (l.s.compared ≤ 255 * l.i) × (l.s.ends ≡ false) × (search_from l.t l.d.category l.d.at l.d.len l.d.shared l.d.inner l.c (lowered l.w) 0 (min l.d.nodes most_nodes) nothing
    ≡ search_from l.t l.d.category l.d.at l.d.len l.d.shared l.d.inner l.c (lowered l.w) l.i (min l.d.nodes most_nodes - l.i) l.s)
