use native.Mathlib.Omega.{arith}
use mathlib.Core.Path.{sym, ◌∙◌}
use mathlib.Core.List.{map}
use lib.ListN.{length-map}
use Rattle.base_text.proofs.Turns.{commons-more, taken-bytes, as_is-word}
use Rattle.base_text.proofs.compare.common_taken.Goals as goal

pub loop-i-preserved : goal.loop-i-preserved
loop-i-preserved g c =
    let a = c.args in
    let f = g.T.Taking.taken in
    let m = length-map a.w.now f in
    commons-more a.p.now (map f a.w.now) 8 c.loop-i.i (λ k. omega (arith, c.type_inv.p k)) (taken-bytes f a.w.now g.T.Taking.a_byte (λ k. omega (arith, c.type_inv.w k)))
    c.loop-i.invariant (omega (arith, c.min-n.ensures)) (omega (arith, c.min-n.ensures, m))
    (as_is-word a.p.now c.loop-i.i ∙ sym c.word_at.ensures ∙ c.if-word_at.true ∙ c.word_at-then-n-i-ge8.ensures)
