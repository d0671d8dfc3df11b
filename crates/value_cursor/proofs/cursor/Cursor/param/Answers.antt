use mathlib.Core.Path.{◌∙◌}
use Rattle.value_cursor.proofs.PartLaws.{param-none, param-bare, param-set}
use Rattle.value_cursor.proofs.cursor.Cursor.param.Goals as goal

pub returns-in_err-c : goal.returns-in_err-c
returns-in_err-c c = c.from_residual.ensures ∙ param-none _ _ _ c.white.ensures _ c.token.ensures c.in_err-c.was

pub returns-then-peek-ne61 : goal.returns-then-peek-ne61
returns-then-peek-ne61 c = param-bare _ _ _ c.white.ensures _ c.token.ensures _ c.in_ok-c.was _ c.white-e.ensures _ c.peek.ensures c.if-peek-ne61.true

pub returns : goal.returns
returns c = param-set _ _ _ c.white.ensures _ c.token.ensures _ c.in_ok-c.was _ c.white-e.ensures _ c.peek.ensures c.if-peek-ne61.false _ _ c.white-2.ensures c.setting.ensures
