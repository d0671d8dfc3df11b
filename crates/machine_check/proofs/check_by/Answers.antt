use native.Mathlib.Omega.{arith}
use Rattle.machine_check.proofs.ImageLaws.{form-few}
use Rattle.machine_check.proofs.check_by.Goals as goal

pub state-first-requires : goal.state-first-requires
state-first-requires c = ((form-few _ _ _ _ _ _ c.formed.ensures c.if-not-formed.false).0, omega arith)

pub rows_right-requires : goal.rows_right-requires
rows_right-requires c = let f = form-few _ _ _ _ _ _ c.formed.ensures c.if-not-formed.false in (f.0, f.1, omega arith)
