use Rattle.std.proofs.Common.{refl, arith}
use Rattle.std.proofs.lemmas.Result.{err_from_is_err_and}
use Rattle.base_numbers.specs.Refusals.{refusal_number}
use Rattle.table_kept.proofs.BytesRight.{pos, kept-refused, kept-strange, kept-none, kept-over, kept-node}
use Rattle.table_kept.proofs.kept.answer.Goals as goal
use Rattle.table_kept.proofs.kept.answer.Goals.{then-node-eq0-via-then-node-eq0, then-node-eq0-via-else-node-eq0+then-d-from}

pub returns-in_err-d : goal.returns-in_err-d
returns-in_err-d c = let p = err_from_is_err_and c.from_residual.result c.from_residual.ensures.1 in
    rw (p.1, p.2) (kept-refused c.args.t.now _ c.in_err-d.ensures c.args.set c.args.node)

pub returns-then-not-is_known : goal.returns-then-not-is_known
unfolding refusal_number
returns-then-not-is_known c = kept-strange c.args.t.now c.in_ok-d.d c.in_ok-d.ensures c.args.set c.is_known.ensures c.if-not-is_known.true c.args.node refl

pub returns-then-node-eq0 : goal.returns-then-node-eq0
unfolding refusal_number
returns-then-node-eq0 c =
    elim c.then-node-eq0.branch [
      | then-node-eq0-via-then-node-eq0 w ↦ kept-none c.args.t.now c.in_ok-d.d c.in_ok-d.ensures c.args.set c.is_known.ensures c.if-not-is_known.false c.args.node
          w.if-node-eq0.true refl
      | then-node-eq0-via-else-node-eq0+then-d-from w ↦ kept-over c.args.t.now c.in_ok-d.d c.in_ok-d.ensures c.args.set c.is_known.ensures c.if-not-is_known.false c.args.node
          w.if-node-eq0.false w.from.ensures w.if-d-from.true refl
    ]

pub search-requires : goal.search-requires
search-requires c = (
  record { bytes = c.args.t.now; formed = c.in_ok-d.ensures.refusal; holds = c.in_ok-d.ensures.holds },
  pos _ c.if-node-eq0.false,
  omega (arith, c.if-d-from.false, c.from.ensures),
)

pub returns : goal.returns
returns c = kept-node c.args.t.now c.in_ok-d.d c.in_ok-d.ensures c.args.set c.is_known.ensures c.if-not-is_known.false c.args.node c.if-node-eq0.false
    c.from.ensures c.if-d-from.false (c.search.ensures c.args.t.now c.in_ok-d.ensures.refusal c.in_ok-d.ensures.holds)
