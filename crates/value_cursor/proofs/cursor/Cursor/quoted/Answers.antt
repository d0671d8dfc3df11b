use mathlib.Core.Path.{ap, sym, ◌∙◌}
use native.Mathlib.Omega.{arith}
use Rattle.std.specs.Prelude.{Some}
use mathlib.Core.Path.{refl}
use Rattle.value_cursor.proofs.QuoteLaws.{opened, unopened, quoted-halt, quoted-more}
use Rattle.value_cursor.proofs.cursor.Cursor.quoted.Goals as goal

pub returns-then-peek-ne34 : goal.returns-then-peek-ne34
returns-then-peek-ne34 c = unopened _ _ _ c.peek.ensures c.if-peek-ne34.true

pub returns-in_err-n : goal.returns-in_err-n
returns-in_err-n c = c.from_residual.ensures ∙ sym (opened c.args.s.now c.args.self.at (sym c.peek.ensures ∙ c.if-peek-ne34.false) ∙ c.loop-n.invariant ∙ c.escapes.ensures.0 ∙ quoted-halt _ _ _ _ _ c.quoted_text.ensures c.in_err-n.was refl)

pub loop-n-smaller : goal.loop-n-smaller
loop-n-smaller c = omega (arith, c.escapes.ensures.1, quoted-more c.args.s.now c.escapes.result.at _ _ c.quoted_text.ensures (c.in_ok-n.was ∙ ap Some c.in-Escaped.is))

pub loop-n-preserved : goal.loop-n-preserved
loop-n-preserved c = c.loop-n.invariant ∙ c.escapes.ensures.0 ∙ (quoted-more c.args.s.now c.escapes.result.at _ _ c.quoted_text.ensures (c.in_ok-n.was ∙ ap Some c.in-Escaped.is)).0

pub returns-in-Closed : goal.returns-in-Closed
returns-in-Closed c = sym (opened c.args.s.now c.args.self.at (sym c.peek.ensures ∙ c.if-peek-ne34.false) ∙ c.loop-n.invariant ∙ c.escapes.ensures.0 ∙ quoted-halt _ _ _ _ _ c.quoted_text.ensures (c.in_ok-n.was ∙ ap Some c.in-Closed.is) refl)
