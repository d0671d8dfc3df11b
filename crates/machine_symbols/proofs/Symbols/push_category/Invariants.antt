use Prim.Native.Nat.{ℕ, ◌≤◌}
use mathlib.Core.List.{List, ◌++◌}
use Rattle.base_numbers.specs.Numbers.{most_symbols}
use Rattle.machine_symbols.specs.Listed.{Listed, nodes_triples}
use Rattle.machine_symbols.proofs.Symbols.push_category.Given as goal

abbrev pub invariant-loop-i : goal.invariant-loop-i
invariant-loop-i at = (at.self.count ≤ most_symbols)
    × ((l : List ℕ) → Listed at.initial.self.bytes at.initial.self.count l → Listed at.self.bytes at.self.count (l ++ nodes_triples at.d.category at.d.inner at.category at.i))
