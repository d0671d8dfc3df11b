use mathlib.Core.Path.{◌∙◌}
use Rattle.value_cursor.proofs.PartLaws.{following-stop, following-entry, following-bad, following-param}
use Rattle.value_cursor.proofs.cursor.Cursor.following.Goals as goal

pub returns-then-s-w : goal.returns-then-s-w
returns-then-s-w c = following-stop _ _ _ c.white-w.ensures c.if-s-w.true

pub returns-then-s-w-eq44 : goal.returns-then-s-w-eq44
returns-then-s-w-eq44 c = following-entry _ _ _ c.white-w.ensures c.if-s-w.false c.if-s-w-eq44.true

pub returns-then-s-w-ne59 : goal.returns-then-s-w-ne59
returns-then-s-w-ne59 c = following-bad _ _ _ c.white-w.ensures c.if-s-w.false c.if-s-w-eq44.false c.if-s-w-ne59.true

pub returns-in_err-param : goal.returns-in_err-param
returns-in_err-param c = c.from_residual.ensures ∙ following-param _ _ _ c.white-w.ensures c.if-s-w.false c.if-s-w-eq44.false c.if-s-w-ne59.false _ _ c.param.ensures c.in_err-param.was

pub returns : goal.returns
returns c = following-param _ _ _ c.white-w.ensures c.if-s-w.false c.if-s-w-eq44.false c.if-s-w-ne59.false _ _ c.param.ensures c.in_ok-param.was
