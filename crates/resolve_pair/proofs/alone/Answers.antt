use mathlib.Core.Path.{refl}
use Rattle.resolve_run.proofs.AnswerLaws.{ended-by}
use Rattle.resolve_pair.proofs.AloneLaws.{alone-right}
use Rattle.resolve_pair.proofs.alone.Goals as goal

pub returns : goal.returns
returns c = λ m e. alone-right _ _ _ m e refl (ended-by _ _ _ c.direct.ensures c.at_start.ensures)
