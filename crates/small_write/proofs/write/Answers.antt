use Rattle.std.proofs.Common.{sym, ◌∙◌, length}
use Rattle.small_rounds.specs.Rows.{machine_in}
use Rattle.small_write.specs.Written.{small_by}
use Rattle.small_write.proofs.WriteLaws.{fit-no, fit-yes}
use Rattle.small_write.proofs.write.Goals as goal

pub returns-then-not-check : goal.returns-then-not-check
returns-then-not-check c = let r = c.args.rows in let p = c.args.p.now in
    let e = fit-no r.bytes.now r.states r.head r.symbols p (small_by c.args.front.now (machine_in r) p) (length c.args.buf.now) (sym c.check.ensures
    ∙ c.if-not-check.true) in record { value = c.refuse.ensures.value ∙ e.0; buf_after = c.refuse.ensures.buf_after ∙ e.1 }

pub returns : goal.returns
returns c = let r = c.args.rows in let p = c.args.p.now in
    let w = fit-yes r.bytes.now r.states r.head r.symbols p (small_by c.args.front.now (machine_in r) p) (length c.args.buf.now) (sym c.check.ensures
    ∙ c.if-not-check.false) _ _ (c.write_small.ensures.value, c.write_small.ensures.buf_after) in record { value = w.0; buf_after = w.1 }
