use Prim.Native.Nat.{◌-◌}
use mathlib.Core.Path.{◌≡◌}
use lib.ListN.{length}
use Rattle.base_numbers.specs.Numbers.{most_states, most_symbols}
use Rattle.machine_symbols.specs.Steps.{next_state}
use Rattle.machine_build.proofs.DiscoverLaws.{Discovering}
use Rattle.machine_build.proofs.states.discover.Given as goal

abbrev pub invariant-loop-i : goal.invariant-loop-i
invariant-loop-i l = Discovering (next_state l.d.rows l.d.parent l.d.inner l.d.signals l.symbols.bytes) l.categories l.count l.initial.part l.part l.states l.i
    × (length l.numbers ≡ most_symbols)

abbrev pub decreases-loop-i : goal.decreases-loop-i
decreases-loop-i l = most_states - l.i
