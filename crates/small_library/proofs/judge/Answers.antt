use Rattle.std.proofs.Common.{rules, ap, sym, ◌∙◌}
use Rattle.std.proofs.lemmas.Result.{err_from_is_err_and}
use Rattle.machine_check.specs.Checks.{check_number}
use Rattle.machine_library.proofs.TableRight.{refused-check, table-check}
use Rattle.small_library.proofs.AnswerLaws.{head-is}
use Rattle.small_library.proofs.judge.Goals as goal

pub returns-in_err-d : goal.returns-in_err-d
returns-in_err-d c = let p = err_from_is_err_and c.from_residual.result c.from_residual.ensures.1 in
    rw (p.1, p.2) (refused-check c.args.t.now _ c.in_err-d.ensures c.args.im.now)

pub returns-in_err-check_by : goal.returns-in_err-check_by
returns-in_err-check_by c =
    let p = err_from_is_err_and c.from_residual-in_err-check_by.result c.from_residual-in_err-check_by.ensures.1 in
    rw (p.1, p.2)
    (ap check_number c.in_err-check_by.ensures ∙ table-check c.args.t.now c.in_ok-d.d c.in_ok-d.ensures c.list-s.result c.list-s.ensures c.args.im.now)

pub returns : goal.returns
returns c = (
  sym (ap check_number c.in_ok-check_by.ensures ∙ table-check c.args.t.now c.in_ok-d.d c.in_ok-d.ensures c.list-s.result c.list-s.ensures c.args.im.now),
  head-is c.args.t.now c.in_ok-d.d c.in_ok-d.ensures c.min.result (search rules),
)
