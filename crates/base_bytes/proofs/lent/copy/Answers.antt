use mathlib.Core.Path.{refl, ◌∙◌}
use lib.ListN.{length-set}
use native.Mathlib.Omega.{arith}
use Rattle.base_lists.proofs.Over.{laid_nil, laid-copy, laid_done}
use Rattle.base_bytes.proofs.lent.copy.Goals as goal

pub loop-i-init : goal.loop-i-init
loop-i-init c = (refl, laid_nil _)

pub loop-i-preserved : goal.loop-i-preserved
loop-i-preserved c = let at = c.loop-i in
    (length-set at.part at.i _ ∙ at.invariant.0, laid-copy _ _ at.part at.i _ at.invariant.1 (omega arith) (omega arith) refl)

pub returns : goal.returns
returns c = let at = c.loop-i in at.invariant.1 ∙ laid_done _ _ at.i (omega arith) (omega arith)
