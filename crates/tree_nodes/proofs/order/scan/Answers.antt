use mathlib.Core.Path.{refl, sym, ◌∙◌}
use Rattle.tree_nodes.proofs.Tests.{scan-more, scan-ends}
use Rattle.tree_nodes.proofs.order.scan.Goals as goal

pub loop-i-init : goal.loop-i-init
loop-i-init c = refl

pub loop-i-preserved : goal.loop-i-preserved
loop-i-preserved c = c.loop-i.invariant ∙ scan-more _ _ _ _ _ c.loop-i-test.true c.from.ensures c.in_ok-used.ensures

pub returns-in_err-used : goal.returns-in_err-used
returns-in_err-used c = c.from_residual.ensures ∙ sym (c.loop-i.invariant ∙ scan-more _ _ _ _ _ c.loop-i-test.true c.from.ensures c.in_err-used.ensures)

pub returns : goal.returns
returns c = sym (c.loop-i.invariant ∙ scan-ends _ _ _ _ _ c.loop-i-test.false)
