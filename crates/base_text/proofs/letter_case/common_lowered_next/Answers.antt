use mathlib.Core.Bool.{cond}
use Rattle.base_text.specs.Text.{lowered}
use Rattle.base_text.proofs.Turns.{next-equal, next-lesser}
use Rattle.base_text.proofs.Cases.{taken-as-is, taken-lowered, lowered-map}
use Rattle.base_text.proofs.letter_case.common_lowered_next.Goals as goal

pub returns-then-k-l : goal.returns-then-k-l
returns-then-k-l c = let a = c.args in
    next-lesser a.p.now (cond a.small a.w.now (lowered a.w.now)) a.k a.l c.if-k-l.true c.min.ensures

pub returns-then-small : goal.returns-then-small
returns-then-small c = let a = c.args in
    next-equal a.p.now (cond a.small a.w.now (lowered a.w.now)) a.k a.l c.if-k-l.false (rw (taken-as-is a.w.now c.if-small.true) c.common_from.ensures)

pub returns-else-small : goal.returns-else-small
returns-else-small c = let a = c.args in
    next-equal a.p.now (cond a.small a.w.now (lowered a.w.now)) a.k a.l c.if-k-l.false
    (rw (taken-lowered a.w.now c.if-small.false) (rw (lowered-map a.w.now) at c.common_taken.ensures))
