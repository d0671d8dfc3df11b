use mathlib.Core.Path.{sym, ◌∙◌}
use Rattle.table_sections.proofs.Readings.{passed-on}
use Rattle.base_numbers.specs.Refusals.{refusal_number}
use Rattle.resolve_pair.proofs.NameLaws.{apart-right}
use Rattle.resolve_pair.proofs.PairLaws.{of-ring, of-lamp, with-24, with-both}
use Rattle.resolve_pair.proofs.both.Goals as goal

pub returns-in_err-r : goal.returns-in_err-r
returns-in_err-r c = λ z. rw (passed-on c.from_residual.result c.from_residual.ensures) (of-ring _ _ _ z _ c.in_err-r.ensures)

pub returns-in_err-l : goal.returns-in_err-l
returns-in_err-l c = λ z.
    rw (passed-on c.from_residual-in_err-l.result c.from_residual-in_err-l.ensures) (of-lamp _ _ _ z c.in_ok-r.ensures.refusal _ c.in_err-l.ensures)

pub returns-then-not-apart : goal.returns-then-not-apart
unfolding refusal_number
returns-then-not-apart c = λ z.
    let r = c.in_ok-r.ensures in
    let l = c.in_ok-l.ensures in
    with-24 _ _ _ z r.refusal l.refusal
    (sym (c.apart.ensures ∙ apart-right _ _ _ _ _ _ _ _ _ _ r.holds.names l.holds.names) ∙ c.if-not-apart.true)

pub returns : goal.returns
returns c = λ z.
    let r = c.in_ok-r.ensures in
    let l = c.in_ok-l.ensures in
    with-both _ _ _ z r.refusal l.refusal
    (sym (c.apart.ensures ∙ apart-right _ _ _ _ _ _ _ _ _ _ r.holds.names l.holds.names) ∙ c.if-not-apart.false)
    (c.alone.ensures r z) (c.alone-2.ensures l z)
