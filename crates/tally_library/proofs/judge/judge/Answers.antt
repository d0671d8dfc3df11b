use mathlib.Core.Path.{sym, ap, subst, ◌∙◌}
use Prim.Native.Nat.{◌≤◌}
use native.Mathlib.Omega.{arith}
use Rattle.base_numbers.specs.Refusals.{refusal_number}
use Rattle.resolve_run.specs.declared.Resolution.{Resolution}
use Rattle.resolve_library.specs.Resolve.{refused}
use Rattle.tally_library.proofs.PlainLaws.{plain-few}
use Rattle.tally_library.proofs.JudgeLaws.{few-counts, some-resolved, none-resolved, too-few-is, judges-few, judges-plain}
use Rattle.tally_library.proofs.judge.judge.Goals as goal

pub returns-then-refusals-lt-TALLY_COUNTS : goal.returns-then-refusals-lt-TALLY_COUNTS
unfolding refusal_number
returns-then-refusals-lt-TALLY_COUNTS c = judges-few _ _ _ _ _ (c.refused.ensures ∙ ap refused c.from.ensures) (few-counts _ _ _ (omega arith))

pub counted-requires : goal.counted-requires
counted-requires c = (subst (λ (r : Resolution). r.refusal ≤ 12) (sym (some-resolved _ _ _ c.in-Some.ensures).1) (plain-few _ _), omega arith)

pub returns-in-Some : goal.returns-in-Some
returns-in-Some c =
    let r = some-resolved _ _ _ c.in-Some.ensures in
    judges-plain _ _ _ _ _ _ _ (too-few-is _ _ _ (omega arith) r.0) r.1 c.counted.ensures

pub returns-in-None : goal.returns-in-None
unfolding refusal_number
returns-in-None c = judges-few _ _ _ _ _ (c.refused-in-None.ensures ∙ ap refused c.from-in-None.ensures) (too-few-is _ _ _ (omega arith) (none-resolved _ _ _ c.in-None.ensures))
