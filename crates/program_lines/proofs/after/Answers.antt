use Rattle.std.proofs.Common.{ap, length}
use Rattle.program_lines.proofs.LineLaws.{after_none, after-some}
use Rattle.program_lines.proofs.after.Goals as goal

pub returns-then-end-s : goal.returns-then-end-s
returns-then-end-s c = after-some _ _ _ (ap length c.before-end.ensures)

pub returns-else-end-s : goal.returns-else-end-s
returns-else-end-s c = after_none _ _ _ (ap length c.before-end.ensures) c.if-end-s.false
