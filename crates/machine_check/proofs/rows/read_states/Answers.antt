use native.Mathlib.Omega.{arith}
use Rattle.machine_check.proofs.ImageLaws.{states-read}
use Rattle.machine_check.proofs.rows.read_states.Goals as goal

pub returns-clause-states : goal.returns-clause-states
returns-clause-states c = states-read _ _ _ (record { held = λ j h. c.loop-j.invariant j (omega arith) })
