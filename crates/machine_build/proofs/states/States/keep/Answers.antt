use native.Mathlib.Omega.{arith}
use Rattle.machine_build.proofs.KeptLaws.{keep-old, keep-new}
use Rattle.machine_build.proofs.states.States.keep.Goals as goal

pub returns-in-Some-clause-value : goal.returns-in-Some-clause-value
returns-in-Some-clause-value c = λ l k. keep-old c.args.self.now l k c.args.st (c.in-Some.ensures l k).0 (c.in-Some.ensures l k).1

pub returns-clause-value : goal.returns-clause-value
returns-clause-value c = λ l k. keep-new c.args.self.now l k c.args.st (c.in_default.ensures l k) (omega arith) (omega arith)
    c.slot_of.ensures.0 c.slot_of.ensures.1
