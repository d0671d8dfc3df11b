use mathlib.Core.Path.{◌∙◌}
use Rattle.resolve_pair.proofs.PairLaws.{of-value}
use Rattle.resolve_pair.proofs.resolve.Goals as goal

pub returns-then-n-ne0 : goal.returns-then-n-ne0
returns-then-n-ne0 c = c.refused.ensures ∙ of-value _ _ _ c.refusal-n.ensures c.if-n-ne0.true
