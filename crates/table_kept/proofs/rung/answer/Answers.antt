use Rattle.std.proofs.Common.{refl}
use Rattle.std.proofs.lemmas.Result.{err_from_is_err_and}
use Rattle.base_numbers.specs.Refusals.{refusal_number}
use Rattle.table_kept.proofs.BytesRight.{rung-refused, rung-strange, rung-over, rung-signal}
use Rattle.table_kept.proofs.rung.answer.Goals as goal

pub returns-in_err-d : goal.returns-in_err-d
returns-in_err-d c = let p = err_from_is_err_and c.from_residual.result c.from_residual.ensures.1 in
    rw (p.1, p.2) (rung-refused c.args.t.now _ c.in_err-d.ensures c.args.set c.args.signal)

pub returns-then-not-is_known : goal.returns-then-not-is_known
unfolding refusal_number
returns-then-not-is_known c = rung-strange c.args.t.now c.in_ok-d.d c.in_ok-d.ensures c.args.set c.is_known.ensures c.if-not-is_known.true c.args.signal refl

pub returns-then-d-from : goal.returns-then-d-from
unfolding refusal_number
returns-then-d-from c = rung-over c.args.t.now c.in_ok-d.d c.in_ok-d.ensures c.args.set c.is_known.ensures c.if-not-is_known.false c.args.signal
    c.from.ensures c.if-d-from.true refl

pub search-requires : goal.search-requires
search-requires c = record { bytes = c.args.t.now; formed = c.in_ok-d.ensures.refusal; holds = c.in_ok-d.ensures.holds }

pub returns : goal.returns
returns c = rung-signal c.args.t.now c.in_ok-d.d c.in_ok-d.ensures c.args.set c.is_known.ensures c.if-not-is_known.false c.args.signal
    c.from.ensures c.if-d-from.false (c.search.ensures c.args.t.now c.in_ok-d.ensures.refusal c.in_ok-d.ensures.holds)
