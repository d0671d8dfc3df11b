use mathlib.Core.Path.{◌∙◌}
use native.Mathlib.Omega.{arith}
use Rattle.resolve_run.proofs.AnswerLaws.{first-by}
use Rattle.resolve_small.proofs.WalkLaws.{over-table}
use Rattle.resolve_small.proofs.resolve.Goals as goal

pub walk-requires : goal.walk-requires
walk-requires c = (c.in-Ok.ensures, omega arith)

pub returns-in-Ok : goal.returns-in-Ok
returns-in-Ok c = c.walk.ensures

pub returns-in-Err : goal.returns-in-Err
returns-in-Err c = first-by _ c.value_first.ensures c.from.ensures ∙ over-table _ _ _ _ _ c.in-Err.ensures
