use Rattle.value_reader.proofs.JudgedLaws.{entries-of, no-entries}
use Rattle.value_reader.proofs.entries.Goals as goal

pub returns-in-Ok : goal.returns-in-Ok
returns-in-Ok c = entries-of _ _ _ c.in-Ok.ensures

pub returns-in-Err : goal.returns-in-Err
returns-in-Err c = no-entries _ _ _ c.in-Err.ensures
