use mathlib.Core.Path.{refl, ◌∙◌}
use Rattle.resolve_run.proofs.AnswerLaws.{first-by}
use Rattle.resolve_small.proofs.WalkLaws.{unformed, walked}
use Rattle.resolve_small.proofs.walk.Goals as goal

pub returns-then-not-formed : goal.returns-then-not-formed
returns-then-not-formed c = first-by _ c.value_first.ensures c.from.ensures ∙ unformed _ _ c.requires.0 _ c.requires.1
    c.list-symbols.ensures _ _ c.formed.ensures c.if-not-formed.true

pub returns : goal.returns
returns c = walked _ _ c.requires.0 _ c.requires.1 c.list-symbols.ensures (refl, refl, refl) _ c.resolved.ensures c.formed.ensures c.if-not-formed.false
