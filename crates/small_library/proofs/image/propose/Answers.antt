use Rattle.std.proofs.Common.{ap, ◌∙◌, length}
use Rattle.small_write.specs.Answer.{answer_in, buffer_in}
use Rattle.small_library.specs.Smaller.{number_of, bytes_of}
use Rattle.small_library.proofs.AnswerLaws.{proposed-read}
use Rattle.small_library.proofs.image.propose.Goals as goal

pub returns : goal.returns
returns c = let buf = c.args.buf.now in let r = c.rows-r.result in
    let e = proposed-read c.args.im.now r.bytes.now r.states r.head r.symbols c.args.head c.rows-r.ensures in
    record {
      value = c.propose_to.ensures.value ∙ ap (λ x. answer_in (number_of x) (bytes_of x) (length buf)) e;
      buf_after = c.propose_to.ensures.buf_after ∙ ap (λ x. buffer_in (number_of x) (bytes_of x) (length buf)) e;
    }
