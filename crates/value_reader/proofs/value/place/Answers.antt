use Rattle.value_reader.proofs.JudgedLaws.{span-of, no-span}
use Rattle.value_reader.proofs.value.place.Goals as goal

pub returns-in-Ok : goal.returns-in-Ok
returns-in-Ok c = span-of _ _ _ c.in-Ok.ensures

pub returns-in-Err : goal.returns-in-Err
returns-in-Err c = no-span _ _ _ c.in-Err.ensures
