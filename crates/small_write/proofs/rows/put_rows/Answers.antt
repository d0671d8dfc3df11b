use Rattle.std.proofs.Common.{◌+◌, ◌*◌, ◌∙◌, ap, refl, arith}
use Rattle.small_write.specs.Rows.{row_of}
use Rattle.small_rounds.specs.Rows.{machine_in}
use Rattle.small_write.proofs.RowLaws.{rows_none, rows_next, rows-done}
use Rattle.small_write.proofs.rows.put_rows.Goals as goal

pub loop-c-init : goal.loop-c-init
loop-c-init c = rows_none (machine_in c.args.m.rows) c.args.p.now c.args.out.now

pub loop-c-preserved : goal.loop-c-preserved
loop-c-preserved c = let m = machine_in c.args.m.rows in
    (rows_next m c.args.p.now c.loop-c.c c.args.count c.loop-c.out c.args.out.now c.put_row.new.row (c.loop-c.c * (1 + m.symbols)) c.loop-c-test.true
    c.requires.2 c.loop-c.invariant refl (c.put_row.ensures ∙ ap (λ z. row_of m c.args.p.now z) c.first_of-f.ensures)).1

pub returns : goal.returns
returns c = rows-done (machine_in c.args.m.rows) c.args.p.now c.loop-c.c c.args.count c.loop-c.out c.args.out.now (omega arith) (omega arith) c.requires.2 c.loop-c.invariant
