use Rattle.std.proofs.Common.{◌+◌}
use Rattle.base_lists.proofs.Filled.{Filled}
use Rattle.small_rounds.specs.Rows.{machine_in}
use Rattle.small_write.proofs.RowLaws.{row_byte}
use Rattle.small_write.proofs.rows.put_row.Given as goal

abbrev pub invariant-loop-s : goal.invariant-loop-s
invariant-loop-s l = Filled (row_byte (machine_in l.m.rows) l.p l.f) l.row (l.s + 1)
