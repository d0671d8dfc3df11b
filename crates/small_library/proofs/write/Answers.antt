use Rattle.std.proofs.Common.{ap, ◌∙◌, length}
use Rattle.base_bytes.specs.Built.{refused}
use Rattle.table_decode.specs.Tables.{table_of}
use Rattle.small_image.specs.Numbers.{small_of}
use Rattle.small_library.proofs.AnswerLaws.{formed, write-refused, write-accepted}
use Rattle.small_library.proofs.write.Goals as goal

pub write-requires : goal.write-requires
write-requires c = (formed c.args.t.now c.args.im.now c.in-Ok.ensures.0).counts-fit

pub returns-in-Ok : goal.returns-in-Ok
returns-in-Ok c =
    let e = write-accepted c.args.t.now c.args.im.now c.in-Ok.ensures.0 c.in-Ok.head c.in-Ok.ensures.1 c.args.p.now (length c.args.buf.now) in
    record { value = c.write.ensures.value ∙ e.0; buf_after = c.write.ensures.buf_after ∙ e.1 }

pub returns-in-Err : goal.returns-in-Err
returns-in-Err c =
    let e = write-refused c.args.t.now c.args.im.now c.in-Err.r c.in-Err.ensures c.args.p.now (small_of (table_of c.args.t.now) c.args.im.now c.args.p.now) (length c.args.buf.now) in
    record { value = c.refuse.ensures.value ∙ ap refused c.from.ensures ∙ e.0; buf_after = c.refuse.ensures.buf_after ∙ e.1 }
