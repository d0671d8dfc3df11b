use Rattle.program_lines.proofs.NumberLaws.{pair_is, over_none, over-more}
use Rattle.std.proofs.Common.{refl, arith, length-set}
use Rattle.program_lines.proofs.decode.Goals as goal

pub loop-k-init : goal.loop-k-init
loop-k-init c = (refl, over_none _ _)

pub loop-k-preserved : goal.loop-k-preserved
loop-k-preserved c = (
  simp length-set c.loop-k.invariant.0,
  over-more _ _ _ _ _ c.loop-k.invariant.1 (omega arith)
      (pair_is c.args.text.now c.loop-k.k _ _ c.hex_digit-high.ensures.value c.hex_digit-low.ensures.value),
)
