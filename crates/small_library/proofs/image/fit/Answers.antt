use Rattle.base_numbers.specs.Refusals.{refusal_number}
use Rattle.small_library.proofs.AnswerLaws.{fit-yes, fit-no}
use Rattle.small_library.proofs.image.fit.Goals as goal

pub returns-then-check : goal.returns-then-check
returns-then-check c = let r = c.rows.result in
    fit-yes c.args.im.now r.bytes.now r.states r.head r.symbols c.args.head c.rows.ensures c.args.p.now c.check.result c.check.ensures c.if-check.true

pub returns-else-check : goal.returns-else-check
unfolding refusal_number
returns-else-check c = let r = c.rows.result in
    fit-no c.args.im.now r.bytes.now r.states r.head r.symbols c.args.head c.rows.ensures c.args.p.now c.check.result c.check.ensures c.if-check.false
