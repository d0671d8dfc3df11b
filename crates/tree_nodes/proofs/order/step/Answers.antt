use Rattle.tree_nodes.proofs.Tests.{step-old, step-new, step-none}
use Rattle.tree_nodes.proofs.order.step.Goals as goal

pub returns-then-k-m : goal.returns-then-k-m
returns-then-k-m c = step-old _ _ _ c.if-k-m.true

pub returns-then-linked : goal.returns-then-linked
returns-then-linked c = step-new _ _ _ c.if-k-m.false c.linked.ensures c.if-linked.true

pub returns-else-linked : goal.returns-else-linked
returns-else-linked c = step-none _ _ _ c.if-k-m.false c.linked.ensures c.if-linked.false
