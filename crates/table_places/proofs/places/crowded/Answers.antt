use mathlib.Core.Path.{sym, ap, ◌∙◌}
use mathlib.Core.Bool.{cond}
use Rattle.base_numbers.specs.Refusals.{refusal_number}
use Rattle.table_places.proofs.places.crowded.Goals as goal

pub returns-then-texts_distinct : goal.returns-then-texts_distinct
unfolding refusal_number
returns-then-texts_distinct c = sym (ap (λ b. cond b 12 11) (sym c.texts_distinct.ensures ∙ c.if-texts_distinct.true))

pub returns-else-texts_distinct : goal.returns-else-texts_distinct
unfolding refusal_number
returns-else-texts_distinct c = sym (ap (λ b. cond b 12 11) (sym c.texts_distinct.ensures ∙ c.if-texts_distinct.false))
