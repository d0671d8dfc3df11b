use native.Mathlib.Omega.{arith}
use mathlib.Core.Path.{sym, ◌∙◌}
use Rattle.node_step.proofs.ByteLaws.{packed-eq}
use Rattle.machine_build.proofs.KeptLaws.{found_at, passed-more, passed-all}
use Rattle.machine_build.proofs.states.States.find.Goals as goal

pub loop-j-init : goal.loop-j-init
loop-j-init c = λ i h. absurd (omega arith)

pub returns-then-eq : goal.returns-then-eq
returns-then-eq c = λ l k. found_at _ l k _ c.loop-j.j c.loop-j-test.true (sym (c.eq.ensures ∙ packed-eq _ _) ∙ c.if-eq.true)

pub loop-j-preserved : goal.loop-j-preserved
loop-j-preserved c = passed-more _ _ c.loop-j.j c.loop-j.invariant (c.eq.ensures ∙ packed-eq _ _) c.if-eq.false

pub returns : goal.returns
returns c = passed-all c.args.self.now c.args.st c.loop-j.j c.loop-j-test.false c.loop-j.invariant
