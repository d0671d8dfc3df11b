use Rattle.std.proofs.Common.{◌∙◌, length}
use Rattle.small_library.proofs.AnswerLaws.{front-is, write_read}
use Rattle.small_library.proofs.image.write.Goals as goal

pub returns : goal.returns
returns c = let im = c.args.im.now in let r = c.rows.result in
    let e = write_read im r.bytes.now r.states r.head r.symbols c.args.head c.rows.ensures _ c.args.p.now (length c.args.buf.now) (front-is im c.at.result c.at.ensures.0) in
    record { value = c.write.ensures.value ∙ e.0; buf_after = c.write.ensures.buf_after ∙ e.1 }
