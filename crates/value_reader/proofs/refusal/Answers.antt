use mathlib.Core.Path.{◌∙◌}
use Rattle.value_reader.proofs.JudgedLaws.{accepted, refused-by}
use Rattle.value_reader.proofs.refusal.Goals as goal

pub returns-in-Ok : goal.returns-in-Ok
returns-in-Ok c = accepted _ _ _ c.in-Ok.ensures

pub returns-in-Err : goal.returns-in-Err
returns-in-Err c = c.from.ensures ∙ refused-by _ _ _ c.in-Err.ensures
