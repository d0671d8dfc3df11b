use mathlib.Core.Path.{ap, ◌∙◌}
use Rattle.std.specs.Prelude.{cond, eqb}
use Rattle.value_reader.specs.Value.{refusal_of}
use Rattle.base_numbers.specs.Refusals.{refusal_number}
use Rattle.resolve_early.specs.Early.{refused}
use Rattle.resolve_early.proofs.AnswerLaws.{early-long, early-table}
use Rattle.resolve_early.proofs.resolve.Goals as goal

pub returns-then-v-gt-MOST_VALUE_BYTES : goal.returns-then-v-gt-MOST_VALUE_BYTES
unfolding refusal_number
returns-then-v-gt-MOST_VALUE_BYTES c = c.refused.ensures ∙ ap refused c.from.ensures ∙ early-long _ _ c.if-v-gt-MOST_VALUE_BYTES.true

pub returns-in-Err : goal.returns-in-Err
returns-in-Err c = c.refused-in-Err.ensures ∙ ap refused (c.first_number.ensures ∙ ap (λ n. cond (eqb (refusal_of c.args.v.now) 0) n (refusal_of c.args.v.now)) c.from-in-Err.ensures) ∙ early-table _ _ _ c.in-Err.ensures
