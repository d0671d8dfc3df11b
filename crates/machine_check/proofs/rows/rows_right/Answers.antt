use mathlib.Core.Path.{refl, sym, ◌∙◌}
use native.Mathlib.Omega.{arith}
use Rattle.base_lists.proofs.Below.{all-stop, all_more, all_done}
use Rattle.base_lists.specs.Lists.{all_below}
use Rattle.machine_check.proofs.rows.rows_right.Goals as goal

pub loop-j-init : goal.loop-j-init
unfolding all_below
loop-j-init c = refl

pub returns-then-not-row_right : goal.returns-then-not-row_right
returns-then-not-row_right c = sym (all-stop _ _ c.loop-j.j c.loop-j-test.true (sym c.row_right.ensures ∙ c.if-not-row_right.true))

pub loop-j-preserved : goal.loop-j-preserved
loop-j-preserved c = all_more _ c.loop-j.j c.loop-j.invariant (sym c.row_right.ensures ∙ c.if-not-row_right.false)

pub returns : goal.returns
returns c = all_done _ _ c.loop-j.j (omega arith) (omega arith) c.loop-j.invariant
