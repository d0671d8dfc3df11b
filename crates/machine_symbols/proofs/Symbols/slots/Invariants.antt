use Prim.Native.Nat.{◌-◌, min}
use mathlib.Core.Path.{◌≡◌}
use Rattle.base_numbers.specs.Numbers.{most_symbols}
use Rattle.machine_symbols.specs.Listed.{index_from}
use Rattle.machine_symbols.proofs.Symbols.slots.Given as goal

abbrev pub invariant-loop-k : goal.invariant-loop-k
invariant-loop-k l = l.index ≡ index_from l.self.bytes l.k (min l.self.count most_symbols - l.k)
