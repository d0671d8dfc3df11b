use Rattle.table_kept.proofs.MarkLaws.{next-given, next-not}
use Rattle.table_kept.proofs.marks.next_by.Goals as goal

pub returns-then-not-may-k : goal.returns-then-not-may-k
returns-then-not-may-k c = next-not _ _ _ _ _ _ c.args.k c.if-not-may-k.true

pub returns : goal.returns
returns c = next-given _ _ _ _ _ _ c.args.k c.if-not-may-k.false c.from.ensures c.after_node.ensures
