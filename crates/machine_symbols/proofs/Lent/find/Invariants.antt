use Prim.Native.Nat.{◌-◌}
use mathlib.Core.Path.{◌≡◌}
use Rattle.machine_symbols.specs.Listed.{triple_index}
use Rattle.machine_symbols.proofs.Lent.find.Given as goal

abbrev pub invariant-loop-k : goal.invariant-loop-k
invariant-loop-k l = triple_index l.self.bytes.now l.s.category l.s.node l.s.kind 0 l.n ≡ triple_index l.self.bytes.now l.s.category l.s.node l.s.kind l.k (l.n - l.k)
