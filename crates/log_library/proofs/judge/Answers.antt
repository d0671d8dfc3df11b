use Prim.Native.Nat.{ℕ, ◌+◌, ◌-◌}
use mathlib.Core.Path.{◌≡◌, sym, ap, ◌∙◌}
use native.Mathlib.Omega.{arith}
use Rattle.log_library.specs.Log.{calls_from}
use Rattle.log_library.specs.Verdict.{judged}
use Rattle.log_library.proofs.JudgeLaws.{turn_on, turn-wrong, turn_end}
use Rattle.resolve_library.proofs.ByTableLaws.{accepted-means}
use Rattle.log_library.proofs.judge.Goals as goal

pub loop-k-init : goal.loop-k-init
loop-k-init c =
    let z : c.word-calls.result ≡ c.word-calls.result - 0 = omega arith in
    (ap (λ (n : ℕ). judged c.args.t.now 0 (calls_from c.args.log.now 2 n)) (sym c.word-calls.ensures.0 ∙ z), omega arith)

pub word-n-requires : goal.word-n-requires
word-n-requires c = omega (arith, c.loop-k.invariant.1, c.loop-k-test.true, c.word-calls.ensures.1)

pub overflow_add-end : goal.overflow_add-end
overflow_add-end c = omega (arith, c.loop-k.invariant.1, c.loop-k-test.true, c.word-calls.ensures.1)

pub overflow_add-end-in-loop-k : goal.overflow_add-end-in-loop-k
overflow_add-end-in-loop-k c = omega (arith, c.loop-k.invariant.1, c.loop-k-test.true, c.word-calls.ensures.1, c.word-n.ensures.1)

pub overflow_add-at : goal.overflow_add-at
overflow_add-at c = omega (arith, c.loop-k.invariant.1, c.loop-k-test.true, c.word-calls.ensures.1)

pub says-requires : goal.says-requires
says-requires c = omega (arith, c.loop-k.invariant.1, c.loop-k-test.true, c.word-calls.ensures.1, c.word-n.ensures.1)

pub returns-then-not-says : goal.returns-then-not-says
returns-then-not-says c =
    let l = c.loop-k in
    turn-wrong c.args.t.now c.args.log.now (c.word-calls.result - l.k) l.at l.k l.invariant.0 (c.word-calls.result - (l.k + 1))
    (omega (arith, c.loop-k-test.true)) c.word-n.ensures.0 c.part.ensures (c.accepted-r.ensures ∙ accepted-means _ _ _ c.requires)
    c.says.ensures c.if-not-says.true c.differs.ensures

pub overflow_add-at-in-loop-k : goal.overflow_add-at-in-loop-k
overflow_add-at-in-loop-k c = omega (arith, c.loop-k.invariant.1, c.loop-k-test.true, c.word-calls.ensures.1, c.word-n.ensures.1)

pub loop-k-preserved : goal.loop-k-preserved
loop-k-preserved c =
    let l = c.loop-k in (
      turn_on c.args.t.now c.args.log.now (c.word-calls.result - l.k) l.at l.k l.invariant.0 (c.word-calls.result - (l.k + 1))
          (omega (arith, c.loop-k-test.true)) c.word-n.ensures.0 c.part.ensures (c.accepted-r.ensures ∙ accepted-means _ _ _ c.requires)
          c.says.ensures c.if-not-says.false,
      omega (arith, l.invariant.1, c.word-n.ensures.1),
    )

pub returns : goal.returns
returns c =
    let l = c.loop-k in
    c.without_call.ensures ∙ turn_end c.args.t.now c.args.log.now (c.word-calls.result - l.k) l.at l.k l.invariant.0
    (omega (arith, c.loop-k-test.false))
