use Prim.Native.Nat.{◌≤◌}
use mathlib.Core.Path.{◌≡◌}
use mathlib.Core.List.{List}
use lib.ListN.{length}
use Rattle.base_numbers.specs.Numbers.{most_states, most_symbols}
use Rattle.node_step.specs.declared.stored.Packed.{Packed}
use Rattle.machine_symbols.specs.Steps.{next_state}
use Rattle.machine_build.specs.States.{Kept}
use Rattle.machine_build.proofs.TurnLaws.{Turning}
use Rattle.machine_build.proofs.states.States.turn.Given as goal

abbrev pub invariant-loop-k : goal.invariant-loop-k
invariant-loop-k at = (at.self.count ≤ most_states) × (length at.numbers ≡ most_symbols)
    × ((l : List Packed) → Kept at.initial.self l
    → Turning (next_state at.d.rows at.d.parent at.d.inner at.d.signals at.symbols.bytes) at.st l at.k at.initial.numbers at.numbers at.self)
