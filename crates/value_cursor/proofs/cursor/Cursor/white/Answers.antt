use mathlib.Core.Path.{sym}
use Rattle.value_cursor.proofs.WhiteLaws.{white-above}
use Rattle.value_cursor.proofs.cursor.Cursor.white.Goals as goal

pub returns-then-s-self-gt32 : goal.returns-then-s-self-gt32
returns-then-s-self-gt32 c = sym (white-above c.args.s.now c.args.self.at c.if-s-self-gt32.true)
