use mathlib.Core.Path.{ap, sym, ◌∙◌}
use native.Mathlib.Omega.{arith}
use Rattle.std.specs.Prelude.{Some}
use mathlib.Core.Path.{refl}
use Rattle.value_cursor.proofs.PartLaws.{ending-halt, ending-more}
use Rattle.value_cursor.proofs.cursor.Cursor.ending.Goals as goal

pub returns-in_err-n : goal.returns-in_err-n
returns-in_err-n c = c.from_residual.ensures ∙ sym (c.loop-n.invariant ∙ ending-halt _ _ _ _ _ c.following.ensures c.in_err-n.was refl)

pub loop-n-smaller : goal.loop-n-smaller
loop-n-smaller c = omega (arith, ending-more c.args.s.now c.loop-n.c.at _ _ c.following.ensures (c.in_ok-n.was ∙ ap Some c.in-Param.is))

pub loop-n-preserved : goal.loop-n-preserved
loop-n-preserved c = c.loop-n.invariant ∙ (ending-more c.args.s.now c.loop-n.c.at _ _ c.following.ensures (c.in_ok-n.was ∙ ap Some c.in-Param.is)).0

pub returns-in-Nothing : goal.returns-in-Nothing
returns-in-Nothing c = sym (c.loop-n.invariant ∙ ending-halt _ _ _ _ _ c.following.ensures (c.in_ok-n.was ∙ ap Some c.in-Nothing.is) refl)

pub returns-in-Comma : goal.returns-in-Comma
returns-in-Comma c = sym (c.loop-n.invariant ∙ ending-halt _ _ _ _ _ c.following.ensures (c.in_ok-n.was ∙ ap Some c.in-Comma.is) refl)
