use mathlib.Core.Path.{ap, ◌∙◌}
use Rattle.std.proofs.lemmas.Result.{err_from_is_err_and}
use Rattle.machine_check.specs.Checks.{check_number}
use Rattle.machine_library.proofs.TableRight.{refused-check, table-check}
use Rattle.machine_library.proofs.checked.Goals as goal

pub returns-in_err-d : goal.returns-in_err-d
returns-in_err-d c = let p = err_from_is_err_and c.from_residual.result c.from_residual.ensures.1 in
    rw (p.1, p.2) (refused-check c.args.t.now _ c.in_err-d.ensures c.args.image.now)

pub returns : goal.returns
returns c = ap check_number c.check_by.ensures ∙ table-check c.args.t.now c.in_ok-d.d c.in_ok-d.ensures c.list-s.result c.list-s.ensures c.args.image.now
