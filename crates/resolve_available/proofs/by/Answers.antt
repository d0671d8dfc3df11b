use mathlib.Core.Path.{refl, sym, ap, ◌∙◌}
use Rattle.resolve_run.proofs.AnswerLaws.{first-by, ended-by}
use Rattle.resolve_available.specs.Available.{known}
use Rattle.resolve_available.proofs.AnswerLaws.{signals-few, available-strange, available-right}
use Rattle.resolve_available.proofs.by.Goals as goal

pub returns-then-not-is_known : goal.returns-then-not-is_known
returns-then-not-is_known c = λ m.
    first-by _ c.value_first.ensures c.from.ensures ∙ available-strange _ _ _ m.refusal
    (sym (c.is_known.ensures ∙ ap (known _) (signals-few _ _ m.holds)) ∙ c.if-not-is_known.true)

pub returns : goal.returns
returns c = λ m.
    available-right _ _ _ m.refusal _ m.holds (sym (c.is_known.ensures
    ∙ ap (known _) (signals-few _ _ m.holds)) ∙ c.if-not-is_known.false)
    refl c.among.ensures (ended-by _ _ _ c.direct.ensures c.at_start.ensures)
