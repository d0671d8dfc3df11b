use Prim.Native.Nat.{ℕ, ◌-◌}
use mathlib.Core.Path.{ap, ◌∙◌}
use native.Mathlib.Omega.{arith}
use Rattle.base_numbers.specs.Refusals.{refusal_number}
use Rattle.resolve_library.specs.Resolve.{refused}
use Rattle.tally_library.proofs.JudgeLaws.{counts-accepted, counts-full, counts-one}
use Rattle.tally_library.proofs.judge.counted.Goals as goal

pub returns-then-r-eq0 : goal.returns-then-r-eq0
returns-then-r-eq0 c = counts-accepted _ _ c.if-r-eq0.true

pub returns-in-Some : goal.returns-in-Some
returns-in-Some c = counts-one _ _ c.if-r-eq0.false (c.from-place.result - 1) (ap (λ (n : ℕ). n - 1) c.from-place.ensures)
    (omega (arith, c.in-Some.ensures)) (omega (arith, c.in-Some.ensures))

pub returns-in-None : goal.returns-in-None
unfolding refusal_number
returns-in-None c = counts-full _ _ c.if-r-eq0.false (c.from-place.result - 1) (ap (λ (n : ℕ). n - 1) c.from-place.ensures)
    _ (c.refused.ensures ∙ ap refused c.from.ensures) (omega (arith, c.in-None.ensures))
