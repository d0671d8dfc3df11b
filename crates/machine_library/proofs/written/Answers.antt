use mathlib.Core.Path.{ap, ◌∙◌}
use lib.ListN.{length}
use Rattle.std.proofs.lemmas.Result.{err_from_is_err_and}
use Rattle.machine_build.specs.States.{answer_of}
use Rattle.machine_library.proofs.TableRight.{refused-built, table-built, table-written}
use Rattle.machine_library.proofs.written.Goals as goal

pub returns-in_err-d-clause-value : goal.returns-in_err-d-clause-value
returns-in_err-d-clause-value c = let p = err_from_is_err_and c.from_residual.result c.from_residual.ensures.1 in
    rw (p.1, p.2) (refused-built c.args.t.now _ c.in_err-d.ensures (length c.args.buf.now))

pub returns-clause-value : goal.returns-clause-value
returns-clause-value c = ap answer_of c.build_by.ensures.value ∙ table-built c.args.t.now c.in_ok-d.d c.in_ok-d.ensures c.list-s.result c.list-s.ensures (length c.args.buf.now)

pub returns-clause-buf_after : goal.returns-clause-buf_after
returns-clause-buf_after c = table-written c.args.t.now c.in_ok-d.d c.in_ok-d.ensures c.list-s.result c.list-s.ensures (length c.args.buf.now) c.build_by.new.buf c.build_by.result
    c.build_by.ensures.value c.build_by.ensures.buf_after
