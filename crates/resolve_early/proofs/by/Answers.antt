use mathlib.Core.Path.{refl, ap, ◌∙◌}
use Rattle.resolve_early.specs.Early.{refused}
use Rattle.resolve_early.proofs.AnswerLaws.{early-enough, early-else}
use Rattle.resolve_early.proofs.by.Goals as goal

pub returns-in-Some : goal.returns-in-Some
returns-in-Some c = λ m. early-enough _ _ _ m c.requires c.in-Some.ensures refl

pub returns-in-None : goal.returns-in-None
returns-in-None c = λ m. c.refused.ensures ∙ ap refused c.refusal.ensures ∙ early-else _ _ _ m c.requires c.in-None.ensures refl
