use Rattle.std.proofs.Common.{◌∙◌}
use Rattle.small_rounds.specs.Rows.{machine_in}
use Rattle.small_rounds.proofs.StoredLaws.{row-rest}
use Rattle.small_rounds.proofs.stored.Machine.same_row.Goals as goal

pub returns-then-p-i : goal.returns-then-p-i
returns-then-p-i c = c.same_targets.ensures ∙ row-rest (machine_in c.args.self.rows) c.args.p.now c.args.i c.args.j c.if-p-i.true
