use mathlib.Core.Path.{◌∙◌}
use Rattle.resolve_run.proofs.AnswerLaws.{first-by}
use Rattle.resolve_library.proofs.ByTableLaws.{accepted-means}
use Rattle.tally_library.proofs.JudgeLaws.{resolved-few, resolved-plain, resolved-refused}
use Rattle.tally_library.proofs.judge.resolved.Goals as goal

pub returns-then-n-d : goal.returns-then-n-d
returns-then-n-d c = resolved-few _ _ _ _ c.in-Ok.ensures c.if-n-d.true

pub returns-else-n-d : goal.returns-else-n-d
returns-else-n-d c = resolved-plain _ _ _ _ c.in-Ok.ensures c.if-n-d.false (c.accepted.ensures ∙ accepted-means _ _ _ c.in-Ok.ensures)

pub returns-in-Err : goal.returns-in-Err
returns-in-Err c = resolved-refused _ _ _ _ c.in-Err.ensures (first-by _ c.value_first.ensures c.from.ensures)
