use Rattle.std.proofs.Common.{refl, ◌∙◌, arith}
use lib.ListN.{length-set}
use Rattle.table_kept.proofs.MarkLaws.{fill-tests, precedes-at}
use Rattle.table_kept.proofs.marks.before.Goals as goal

pub loop-k-init : goal.loop-k-init
loop-k-init c = (refl, λ j h. absurd (omega arith))

pub loop-k-preserved : goal.loop-k-preserved
loop-k-preserved c = (
  length-set c.loop-k.may c.loop-k.k _ ∙ c.loop-k.invariant.0,
  fill-tests c.loop-k.may _ c.loop-k.k (omega (arith, c.loop-k.invariant.0)) c.loop-k.invariant.1 (precedes-at _ _ _ _ c.loop-k.k c.precedes.ensures),
)

pub returns : goal.returns
returns c = λ j h. c.loop-k.invariant.1 j (omega arith)
