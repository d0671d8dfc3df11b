use Rattle.std.proofs.Common.{◌+◌, ◌∙◌, refl, arith}
use lib.ListN.{length-set}
use Rattle.base_lists.proofs.Filled.{filled_none, filled_more}
use Rattle.small_rounds.specs.Rows.{machine_in}
use Rattle.small_write.proofs.RowLaws.{row_byte, row-byte, row_written}
use Rattle.small_write.proofs.rows.put_row.Goals as goal

pub loop-s-init : goal.loop-s-init
loop-s-init c = let f = row_byte (machine_in c.args.m.rows) c.args.p.now c.args.f in
    filled_more f c.args.row.now 0 _ (omega (arith, c.requires.1)) c.signal.ensures (filled_none f c.args.row.now)

pub loop-s-preserved : goal.loop-s-preserved
loop-s-preserved c = let m = machine_in c.args.m.rows in
    filled_more (row_byte m c.args.p.now c.args.f) c.loop-s.row (c.loop-s.s + 1) _ (omega (arith, length-set c.args.row.now 0 c.signal.result))
    (c.class_after.ensures ∙ row-byte m c.args.p.now c.args.f c.loop-s.s (m.target c.args.f c.loop-s.s) c.loop-s-test.true refl) c.loop-s.invariant

pub returns : goal.returns
returns c = row_written (machine_in c.args.m.rows) c.args.p.now c.args.f c.loop-s.s c.loop-s.row (omega (arith, length-set c.args.row.now 0 c.signal.result)) (omega arith) c.loop-s.invariant
