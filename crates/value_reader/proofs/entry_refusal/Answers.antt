use mathlib.Core.Path.{◌∙◌}
use Rattle.value_reader.proofs.JudgedLaws.{entry-refused, entry-there, entry-missing}
use Rattle.value_reader.proofs.entry_refusal.Goals as goal

pub returns-then-k-t : goal.returns-then-k-t
returns-then-k-t c = entry-there _ _ _ c.in-Ok.ensures c.if-k-t.true

pub returns-else-k-t : goal.returns-else-k-t
returns-else-k-t c = entry-missing _ _ _ c.in-Ok.ensures c.if-k-t.false

pub returns-in-Err : goal.returns-in-Err
returns-in-Err c = c.from.ensures ∙ entry-refused _ _ _ c.in-Err.ensures
