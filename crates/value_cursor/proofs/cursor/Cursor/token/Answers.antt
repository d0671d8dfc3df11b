use Rattle.value_cursor.proofs.PartLaws.{token-none, token-some}
use Rattle.value_cursor.proofs.cursor.Cursor.token.Goals as goal

pub returns-then-self-c : goal.returns-then-self-c
returns-then-self-c c = token-none _ _ _ c.run-c.ensures c.if-self-c.true

pub returns-else-self-c : goal.returns-else-self-c
returns-else-self-c c = token-some _ _ _ c.run-c.ensures c.if-self-c.false
