use Rattle.tree_nodes.proofs.Tests.{under-zero, under-late, under_same}
use Rattle.tree_nodes.proofs.parents.parent_right.Goals as goal

pub returns-then-p-eq0 : goal.returns-then-p-eq0
returns-then-p-eq0 c = under-zero _ _ _ c.from-p.ensures c.if-p-eq0.true

pub returns-then-p-i : goal.returns-then-p-i
returns-then-p-i c = under_same _ _ _ c.from-p.ensures c.if-p-eq0.false c.if-p-i.true

pub returns-else-p-i : goal.returns-else-p-i
returns-else-p-i c = under-late _ _ _ c.from-p.ensures c.if-p-eq0.false c.if-p-i.false
