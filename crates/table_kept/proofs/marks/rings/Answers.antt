use Rattle.table_kept.proofs.MarkLaws.{rings-is}
use Rattle.table_kept.proofs.marks.rings.Goals as goal

pub returns : goal.returns
returns c = rings-is _ _ _ _ _ _ _ c.open_at.ensures c.step.ensures
