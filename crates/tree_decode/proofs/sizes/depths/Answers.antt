use native.Mathlib.Omega.{arith}
use Prim.Native.Nat.{◌<◌}
use mathlib.Core.Path.{refl}
use lib.ListN.{length}
use Rattle.tree_decode.proofs.Filling.{base-le, bound-more, from_more}
use Rattle.tree_decode.proofs.sizes.depths.Goals as goal

pub loop-i-init : goal.loop-i-init
loop-i-init c = ((λ j h. absurd (omega arith)), λ j h. absurd (omega arith))

pub above-base-requires : goal.above-base-requires
above-base-requires c = let loop-test = c.loop-i-test.true in
    omega (arith, c.from-p.ensures, c.requires.1.low _ loop-test)

pub overflow_add-depth : goal.overflow_add-depth
overflow_add-depth c = let loop-test = c.loop-i-test.true in
    let i = c.loop-i.i in
    let inv = c.loop-i.invariant in
    let out = c.loop-i.out in
    let category = c.args.s.now.category in
    let n = c.args.s.now.counts.nodes in
    let parent = c.args.s.now.parent in
    let b = base-le parent category out n i c.requires.1 loop-test inv.1 c.from-p.ensures c.above-base.ensures (omega arith) in
    omega (arith, b)

pub loop-i-preserved : goal.loop-i-preserved
loop-i-preserved c = let out = c.loop-i.out in
    let i = c.loop-i.i in
    let y : i < length out = omega arith in (
      from_more c.args.s.now.parent
          c.args.s.now.category out
          c.args.s.now.counts.nodes i c.requires.1
          c.loop-i-test.true c.loop-i.invariant.1
          c.from-p.ensures c.above-base.ensures (omega arith) (λ i. 1) _ refl (omega arith) y (λ i. 0) refl
          c.loop-i.invariant.0,
      bound-more c.args.s.now.parent
          c.args.s.now.category out
          c.args.s.now.counts.nodes i c.requires.1
          c.loop-i-test.true c.loop-i.invariant.1
          c.from-p.ensures c.above-base.ensures (omega arith) (λ i. 1) _ refl (omega arith) y,
    )

pub returns : goal.returns
returns c = λ j h. c.loop-i.invariant.0 j (omega arith)
