use mathlib.Core.Path.{sym}
use Rattle.tally_library.proofs.JudgeLaws.{needed-is, needs-none}
use Rattle.tally_library.proofs.month.needed.Goals as goal

pub returns-in-Ok : goal.returns-in-Ok
returns-in-Ok c = needed-is _ _ c.in-Ok.ensures

pub returns-in-Err : goal.returns-in-Err
returns-in-Err c = sym (needs-none _ _ c.in-Err.ensures)
