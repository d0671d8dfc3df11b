use Rattle.std.proofs.Common.{arith}
use Rattle.base_lists.proofs.Filled.{filled_more}
use Rattle.table_kept.proofs.marks.store_targets.Goals as goal

pub loop-i-preserved : goal.loop-i-preserved
loop-i-preserved c = filled_more _ c.loop-i.all c.loop-i.i _ (omega arith) c.next_by.ensures c.loop-i.invariant

pub returns : goal.returns
returns c = λ j h. c.loop-i.invariant j (omega arith)
