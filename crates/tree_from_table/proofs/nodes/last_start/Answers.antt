use native.Mathlib.Omega.{arith}
use Prim.Native.Nat.{◌+◌, ◌-◌}
use mathlib.Core.Path.{◌≡◌, ap, sym, ◌∙◌}
use lib.ListN.{drop}
use Rattle.tree_from_table.proofs.LastNames.{whole-nil, whole-more, last-at, last-whole}
use Rattle.tree_from_table.proofs.nodes.last_start.Goals as goal

pub loop-i-init : goal.loop-i-init
loop-i-init c = whole-nil c.args.w.now

pub returns-then-w-i-eq58 : goal.returns-then-w-i-eq58
returns-then-w-i-eq58 c = let i = c.loop-i.i in
    let w = c.args.w.now in
    let q : i - 1 + 1 ≡ i = omega arith in
    (omega arith, ap (λ j. drop j w) q ∙ last-at w i (omega arith) (omega arith) c.loop-i.invariant c.if-w-i-eq58.true)

pub loop-i-preserved : goal.loop-i-preserved
loop-i-preserved c = whole-more c.args.w.now c.loop-i.i (omega arith) (omega arith) c.loop-i.invariant c.if-w-i-eq58.false

pub returns : goal.returns
returns c = let q : c.loop-i.i ≡ 0 = omega arith in
    (omega arith, ap (λ j. drop j c.args.w.now) (sym q) ∙ last-whole c.args.w.now c.loop-i.i c.loop-i-test.false c.loop-i.invariant)
