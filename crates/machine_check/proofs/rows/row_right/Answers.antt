use mathlib.Core.Path.{refl, sym, ◌∙◌}
use native.Mathlib.Omega.{arith}
use Rattle.base_lists.proofs.Below.{all-stop, all_more, all_done}
use Rattle.base_lists.specs.Lists.{all_below}
use Rattle.machine_check.specs.Checks.{row_right_by}
use Rattle.machine_check.proofs.ImageLaws.{target-test}
use Rattle.machine_check.proofs.rows.row_right.Goals as goal

pub loop-k-init : goal.loop-k-init
unfolding all_below
loop-k-init c = refl

pub returns-then-not-is_right : goal.returns-then-not-is_right
unfolding row_right_by
returns-then-not-is_right c = sym (all-stop _ _ c.loop-k.k c.loop-k-test.true
    (sym (target-test _ c.args.im.now c.args.d.now.categories c.args.j c.place.ensures.0 c.state-from.ensures c.loop-k.k c.at.ensures.0 c.next-right.ensures c.is_right.ensures)
    ∙ c.if-not-is_right.true))

pub loop-k-preserved : goal.loop-k-preserved
loop-k-preserved c = all_more _ c.loop-k.k c.loop-k.invariant
    (sym (target-test _ c.args.im.now c.args.d.now.categories c.args.j c.place.ensures.0 c.state-from.ensures c.loop-k.k c.at.ensures.0 c.next-right.ensures c.is_right.ensures)
    ∙ c.if-not-is_right.false)

pub returns : goal.returns
unfolding row_right_by
returns c = all_done _ _ c.loop-k.k (omega arith) (omega arith) c.loop-k.invariant
