use Prim.Native.Nat.{◌≤◌, min}
use Rattle.base_numbers.specs.Numbers.{most_nodes, most_symbols}
use Rattle.machine_symbols.specs.Listed.{Listed, triple_lists}
use Rattle.machine_symbols.proofs.list.Given as goal

abbrev pub invariant-loop-category : goal.invariant-loop-category
invariant-loop-category l = (l.symbols.count ≤ most_symbols)
    × Listed l.symbols.bytes l.symbols.count (triple_lists l.d.category l.d.inner (min l.d.nodes most_nodes) l.category)
