use Rattle.std.proofs.Common.{ap, ◌∙◌, sym}
use Rattle.base_lists.proofs.Below.{all-false, all_true, all-next, all_none}
use Rattle.resolve_pair.specs.Alone.{none_at, apart_by}
use Rattle.resolve_pair.proofs.names.apart.Goals as goal

pub loop-i-init : goal.loop-i-init
loop-i-init c = all_none _

pub returns-then-not-none_has : goal.returns-then-not-none_has
unfolding apart_by
returns-then-not-none_has c = rw (sym c.min-n.ensures) (all-false _ _ _ c.min-i-end.ensures c.loop-i-test.true c.none_has.ensures c.if-not-none_has.true)

pub loop-i-preserved : goal.loop-i-preserved
loop-i-preserved c = all-next _ _ c.loop-i.invariant c.none_has.ensures c.if-not-none_has.false

pub returns : goal.returns
unfolding apart_by
returns c = rw (sym c.min-n.ensures) (all_true _ _ _ c.min-i-end.ensures c.loop-i-test.false c.loop-i.auto.i-end c.loop-i.invariant)
