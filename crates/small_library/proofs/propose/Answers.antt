use Rattle.std.proofs.Common.{ap, ◌∙◌, length}
use Rattle.base_bytes.specs.Built.{refused}
use Rattle.theory_minimal.specs.Test.{proposed}
use Rattle.small_library.specs.Smaller.{machine_from, bytes_of}
use Rattle.small_library.proofs.AnswerLaws.{formed, propose-refused, propose-accepted}
use Rattle.small_library.proofs.propose.Goals as goal

pub propose-requires : goal.propose-requires
propose-requires c = let f = formed c.args.t.now c.args.im.now c.in-Ok.ensures.0 in (f.counts-fit, f.few-states)

pub returns-in-Ok : goal.returns-in-Ok
returns-in-Ok c =
    let e = propose-accepted c.args.t.now c.args.im.now c.in-Ok.ensures.0 c.in-Ok.head c.in-Ok.ensures.1 (length c.args.buf.now) in
    record { value = c.propose.ensures.value ∙ e.0; buf_after = c.propose.ensures.buf_after ∙ e.1 }

pub returns-in-Err : goal.returns-in-Err
returns-in-Err c =
    let e = propose-refused c.args.t.now c.args.im.now c.in-Err.r c.in-Err.ensures (bytes_of (proposed (machine_from c.args.t.now c.args.im.now))) (length c.args.buf.now) in
    record { value = c.refuse.ensures.value ∙ ap refused c.from.ensures ∙ e.0; buf_after = c.refuse.ensures.buf_after ∙ e.1 }
