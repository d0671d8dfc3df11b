use Rattle.std.proofs.Common.{ap, ◌+◌, ◌*◌}
use Rattle.base_numbers.specs.Numbers.{most_nodes}
use Rattle.table_kept.proofs.MarkLaws.{stored_at, stored_past}
use Rattle.table_kept.proofs.marks.target.Goals as goal

pub returns-then-i-lt2048 : goal.returns-then-i-lt2048
returns-then-i-lt2048 c = stored_at _ _ _ (ap (λ z. z * most_nodes + c.args.k) c.from.ensures) c.if-i-lt2048.true

pub returns-else-i-lt2048 : goal.returns-else-i-lt2048
returns-else-i-lt2048 c = stored_past _ _ _ (ap (λ z. z * most_nodes + c.args.k) c.from.ensures) c.if-i-lt2048.false
