use mathlib.Core.Path.{◌∙◌}
use Rattle.resolve_library.proofs.PlainLaws.{tried-table}
use Rattle.resolve_library.proofs.ByTableLaws.{tried-means}
use Rattle.resolve_library.proofs.plain.Goals as goal

pub returns-in-Ok : goal.returns-in-Ok
returns-in-Ok c = c.tried.ensures ∙ tried-means _ _ _ c.in-Ok.ensures

pub returns-in-Err : goal.returns-in-Err
returns-in-Err c = c.untried.ensures ∙ tried-table _ _ _ c.in-Err.ensures
