use native.Mathlib.Omega.{arith}
use Rattle.tree_to_table.proofs.Ancestry.{ancestor-more, ancestor-end}
use Rattle.tree_to_table.proofs.paths.ancestor.Goals as goal

pub loop-preserved : goal.loop-preserved
loop-preserved c = ancestor-more c.args.parent.now c.args.k _ c.loop.invariant c.parent_of-a.ensures

pub returns : goal.returns
returns c = ancestor-end c.args.parent.now c.args.k _ c.args.j (omega arith) (omega arith) c.loop.invariant
