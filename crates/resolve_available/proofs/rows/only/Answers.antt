use mathlib.Core.Path.{refl}
use Rattle.resolve_available.proofs.RowLaws.{fill-row, filled}
use native.Mathlib.Omega.{arith}
use Rattle.resolve_available.proofs.rows.only.Goals as goal

pub loop-s-init : goal.loop-s-init
loop-s-init c = record { wide = refl; so_far = λ k h. absurd (omega arith) }

pub loop-s-preserved : goal.loop-s-preserved
loop-s-preserved c = fill-row _ _ _ _ c.loop-s.invariant c.loop-s-test.true c.row_if.ensures

pub returns : goal.returns
returns c = filled _ _ _ _ c.loop-s.invariant c.loop-s-test.false
