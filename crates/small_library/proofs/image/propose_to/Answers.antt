use Rattle.std.proofs.Common.{◌∙◌, length}
use Rattle.small_classes.specs.Check.{stored_proposed}
use Rattle.small_classes.proofs.CheckLaws.{proposed-is}
use Rattle.small_library.proofs.AnswerLaws.{none-answer, some-answer, given-none, given-some}
use Rattle.small_library.proofs.image.propose_to.Goals as goal

pub returns-then-not-propose : goal.returns-then-not-propose
returns-then-not-propose c = let r = c.args.rows in let x = stored_proposed r.bytes.now r.states r.head r.symbols in
    let e = none-answer x (length c.args.buf.now) (given-none x c.propose.new.out c.propose.result
    (proposed-is _ _ _ _ c.args.classes.now _ _ c.requires c.propose.ensures) c.if-not-propose.true) in
    record { value = c.refuse.ensures.value ∙ e.0; buf_after = c.refuse.ensures.buf_after ∙ e.1 }

pub returns : goal.returns
returns c = let r = c.args.rows in let x = stored_proposed r.bytes.now r.states r.head r.symbols in
    let w = some-answer x (length c.args.buf.now) c.propose.new.out _ _ (given-some x c.propose.new.out c.propose.result
    (proposed-is _ _ _ _ c.args.classes.now _ _ c.requires c.propose.ensures) c.if-not-propose.false) c.put.ensures.value c.put.ensures.buf_after in
    record { value = w.0; buf_after = w.1 }
