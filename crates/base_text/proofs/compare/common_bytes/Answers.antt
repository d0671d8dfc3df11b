use native.Mathlib.Omega.{arith}
use mathlib.Core.Path.{sym, ◌∙◌}
use mathlib.Core.List.{map}
use lib.ListN.{length-map}
use Rattle.base_text.proofs.Turns.{common-more, common-less, common-past, taken-at}
use Rattle.base_text.proofs.compare.common_bytes.Goals as goal

pub returns-then-p-i : goal.returns-then-p-i
returns-then-p-i g c =
    let a = c.args in
    let f = g.T.Taking.taken in
    let m = length-map a.w.now f in
    common-less a.p.now (map f a.w.now) c.loop-i.i c.loop-i.invariant (omega (arith, c.min-n.ensures)) (omega (arith, c.min-n.ensures, m))
    (λ e. c.if-p-i.true (e ∙ taken-at f a.w.now c.loop-i.i (omega (arith, c.min-n.ensures)) ∙ sym c.take.ensures))

pub loop-i-preserved : goal.loop-i-preserved
loop-i-preserved g c =
    let a = c.args in
    let f = g.T.Taking.taken in
    let m = length-map a.w.now f in
    common-more a.p.now (map f a.w.now) c.loop-i.i c.loop-i.invariant (omega (arith, c.min-n.ensures)) (omega (arith, c.min-n.ensures, m))
    (c.if-p-i.false ∙ c.take.ensures ∙ sym (taken-at f a.w.now c.loop-i.i (omega (arith, c.min-n.ensures))))

pub returns : goal.returns
returns g c =
    let a = c.args in
    let f = g.T.Taking.taken in
    let m = length-map a.w.now f in
    common-past a.p.now (map f a.w.now) a.from c.loop-i.i (λ h. omega (arith, c.max.ensures, c.min-n.ensures, m, c.loop-i.auto.i-end))
    (omega (arith, c.max.ensures, c.min-n.ensures, m)) (omega (arith, c.max.ensures, c.min-n.ensures, m)) c.loop-i.invariant
