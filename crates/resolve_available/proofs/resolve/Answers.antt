use mathlib.Core.Path.{◌∙◌}
use Rattle.resolve_run.proofs.AnswerLaws.{first-by}
use Rattle.resolve_available.proofs.AnswerLaws.{available-table}
use Rattle.resolve_available.proofs.resolve.Goals as goal

pub returns-in-Ok : goal.returns-in-Ok
returns-in-Ok c = c.by.ensures c.in-Ok.ensures

pub returns-in-Err : goal.returns-in-Err
returns-in-Err c = first-by _ c.value_first.ensures c.from.ensures ∙ available-table _ _ _ _ c.in-Err.ensures
