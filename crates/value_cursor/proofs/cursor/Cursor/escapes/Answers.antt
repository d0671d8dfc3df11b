use mathlib.Core.Path.{◌∙◌}
use native.Mathlib.Omega.{arith}
use Rattle.value_cursor.proofs.QuoteLaws.{escaped-more}
use Rattle.value_cursor.proofs.cursor.Cursor.escapes.Goals as goal

pub loop-c-preserved : goal.loop-c-preserved
loop-c-preserved c = (
  c.loop-c.invariant.0 ∙ escaped-more c.args.s.now c.loop-c.c.at c.if-s-c-eq92.true (omega (arith, c.if-s-c-gt1.true)) c.has.ensures c.if-has.true,
  omega (arith, c.loop-c.invariant.1),
)
