use Rattle.std.proofs.Common.{refl, ◌∙◌, length, rules}
use Rattle.small_write.proofs.AnswerLaws.{answer-short, answer-done, two-parts}
use Rattle.small_write.proofs.put.Goals as goal

pub returns-then-buf-n : goal.returns-then-buf-n
returns-then-buf-n c = let e = answer-short c.args.bytes.now (length c.args.buf.now) c.if-buf-n.true in
    record { value = c.refuse.ensures.value ∙ e.0; buf_after = c.refuse.ensures.buf_after ∙ e.1 }

pub returns : goal.returns
returns c = let e = answer-done c.args.bytes.now (length c.args.buf.now) c.if-buf-n.false in
    record {
      value = e.0;
      buf_after = two-parts c.args.bytes.now c.args.buf.now c.copy_from_slice.new.self c.fill.new.self (length c.args.bytes.now) refl c.if-buf-n.false
          (search rules) _ _ (search rules) refl refl ∙ e.1;
    }
