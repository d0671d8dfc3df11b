use native.Mathlib.Omega.{arith}
use Prim.Native.Nat.{◌<◌}
use lib.ListN.{length}
use Rattle.tree_decode.proofs.Filling.{categories-more}
use Rattle.tree_decode.proofs.sizes.urn_categories.Goals as goal

pub loop-i-init : goal.loop-i-init
loop-i-init c = λ j h. absurd (omega arith)

pub overflow_sub-out : goal.overflow_sub-out
overflow_sub-out c = omega (arith, c.from-k.ensures, (c.requires.1 _ c.loop-i-test.true).0)

pub bounds-s-k : goal.bounds-s-k
bounds-s-k c = let loop-test = c.loop-i-test.true in omega (arith, c.from-k.ensures, (c.requires.1 _ loop-test).0, (c.requires.1 _ loop-test).1)

pub loop-i-preserved : goal.loop-i-preserved
loop-i-preserved c = let i = c.loop-i.i in let inv = c.loop-i.invariant in
    let out = c.loop-i.out in
    let category = c.args.s.now.category in
    let number = c.args.s.now.number in
    let y : i < length out = omega arith in
    categories-more number category out i c.from-k.ensures y inv

pub returns : goal.returns
returns c = λ j h. c.loop-i.invariant j (omega arith)
