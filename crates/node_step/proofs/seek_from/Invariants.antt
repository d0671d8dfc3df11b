use Rattle.base_numbers.specs.Numbers.{most_signals, most_tries}
use Rattle.node_step.specs.Step.{seek}
use Prim.Native.Nat.{◌-◌, min}
use mathlib.Core.Path.{◌≡◌}
use Rattle.node_step.proofs.seek_from.Given as goal

abbrev pub invariant-loop : goal.invariant-loop
invariant-loop l = seek l.d.rows l.d.parent (min l.d.signals most_signals) l.row l.c l.q most_tries l.k
    ≡ seek l.d.rows l.d.parent (min l.d.signals most_signals) l.row l.c l.q (9 - l.counter) l.p
