use Rattle.node_search.proofs.UseLaws.{met-above, met-other}
use Rattle.node_search.proofs.uses.meet.Goals as goal

pub returns-then-covers_by-clause-value : goal.returns-then-covers_by-clause-value
returns-then-covers_by-clause-value c = met-above _ _ _ _ _ _ c.covers_by.ensures c.bytes_compared.ensures.0 c.if-covers_by.true

pub returns-else-covers_by-clause-value : goal.returns-else-covers_by-clause-value
returns-else-covers_by-clause-value c = met-other _ _ _ _ _ _ c.covers_by.ensures c.bytes_compared.ensures.0 c.if-covers_by.false
