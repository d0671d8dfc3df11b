use Rattle.base_numbers.specs.Numbers.{most_tries}
use Rattle.node_step.specs.Step.{reaches}
use Prim.Native.Nat.{◌-◌}
use mathlib.Core.Path.{◌≡◌}
use Rattle.node_step.proofs.reaches_of.Given as goal

abbrev pub invariant-loop : goal.invariant-loop
invariant-loop l = reaches l.parents l.q most_tries l.d ≡ reaches l.parents l.q (9 - l.counter) l.p
