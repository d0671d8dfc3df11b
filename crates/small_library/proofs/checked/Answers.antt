use Rattle.std.proofs.lemmas.Result.{err_from_is_err_and}
use Rattle.small_library.proofs.AnswerLaws.{formed, check-refused, check-accepted}
use Rattle.small_library.proofs.checked.Goals as goal

pub returns-in_err-head : goal.returns-in_err-head
returns-in_err-head c = let p = err_from_is_err_and c.from_residual.result c.from_residual.ensures.1 in
    rw (p.1, p.2) (check-refused c.args.t.now c.args.im.now _ c.in_err-head.ensures c.args.p.now)

pub fit-requires : goal.fit-requires
fit-requires c = (formed c.args.t.now c.args.im.now c.in_ok-head.ensures.0).counts-fit

pub returns : goal.returns
returns c = check-accepted c.args.t.now c.args.im.now c.in_ok-head.ensures.0 c.in_ok-head.head c.in_ok-head.ensures.1 c.args.p.now _ c.fit.ensures
