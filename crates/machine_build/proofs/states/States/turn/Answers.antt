use native.Mathlib.Omega.{arith}
use mathlib.Core.Path.{◌∙◌}
use Rattle.std.proofs.lemmas.Result.{err_from_is_err_and}
use lib.ListN.{length-set}
use Rattle.machine_build.proofs.TurnLaws.{turning-start, turning-more, turning-over, turning-end}
use Rattle.machine_build.proofs.states.States.turn.Goals as goal

pub loop-k-init : goal.loop-k-init
loop-k-init c = (c.requires.1, c.requires.2, λ l k. turning-start _ _ l _ _ k)

pub returns-in_err-numbers-clause-turned : goal.returns-in_err-numbers-clause-turned
returns-in_err-numbers-clause-turned c = λ l k. let p = err_from_is_err_and c.from_residual.result c.from_residual.ensures.1 in
    rw (p.1, p.2) (turning-over _ c.args.st l c.args.numbers.now c.loop-k.k c.loop-k.numbers c.loop-k.self (c.loop-k.invariant.2 l k) c.args.count
    c.loop-k-test.true c.next-to.ensures c.in_err-numbers.ensures.value)

pub loop-k-preserved : goal.loop-k-preserved
loop-k-preserved c = (
  c.keep.ensures.upper_bound,
  length-set c.loop-k.numbers c.loop-k.k c.in_ok-numbers.field-0 ∙ c.loop-k.invariant.1,
  λ l k. turning-more _ c.args.st l c.args.numbers.now c.loop-k.k c.loop-k.numbers c.loop-k.self (c.loop-k.invariant.2 l k) c.keep.new.self
      (omega (arith, c.requires.0, c.requires.2, c.loop-k-test.true)) c.next-to.ensures c.in_ok-numbers.ensures.value,
)

pub returns-clause-turned : goal.returns-clause-turned
returns-clause-turned c = λ l k. turning-end _ c.args.st l c.args.numbers.now c.loop-k.k c.loop-k.numbers c.loop-k.self (c.loop-k.invariant.2 l k) c.args.count
    (omega arith) c.loop-k-test.false
