use Rattle.value_cursor.proofs.PartLaws.{setting-quoted, setting-token}
use Rattle.value_cursor.proofs.cursor.Cursor.setting.Goals as goal

pub returns-then-peek-eq34 : goal.returns-then-peek-eq34
returns-then-peek-eq34 c = setting-quoted _ _ _ _ c.peek.ensures c.if-peek-eq34.true c.quoted.ensures

pub returns-else-peek-eq34 : goal.returns-else-peek-eq34
returns-else-peek-eq34 c = setting-token _ _ _ _ c.peek.ensures c.if-peek-eq34.false c.token.ensures
