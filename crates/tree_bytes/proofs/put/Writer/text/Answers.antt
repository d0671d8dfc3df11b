use Rattle.tree_bytes.proofs.Laying.{wrote-text}
use Rattle.tree_bytes.proofs.put.Writer.text.Goals as goal

pub returns-clause-wrote : goal.returns-clause-wrote
returns-clause-wrote c = wrote-text _ c.small.ensures c.byte.ensures.wrote c.all.ensures.wrote
