use Rattle.base_lists.proofs.Below.{all-false, all_true, all-next, all_none}
use Rattle.resolve_early.specs.SettledBy.{settled_by}
use Rattle.resolve_early.proofs.settled.settled.Goals as goal

pub loop-c-init : goal.loop-c-init
loop-c-init c = all_none _

pub returns-then-not-category_keeps : goal.returns-then-not-category_keeps
unfolding settled_by
returns-then-not-category_keeps c = all-false _ _ _ c.min-c-end.ensures c.loop-c-test.true c.category_keeps.ensures c.if-not-category_keeps.true

pub loop-c-preserved : goal.loop-c-preserved
loop-c-preserved c = all-next _ _ c.loop-c.invariant c.category_keeps.ensures c.if-not-category_keeps.false

pub returns : goal.returns
unfolding settled_by
returns c = all_true _ _ _ c.min-c-end.ensures c.loop-c-test.false c.loop-c.auto.c-end c.loop-c.invariant
