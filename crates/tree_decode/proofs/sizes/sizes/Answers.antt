use native.Mathlib.Omega.{arith}
use Prim.Native.Nat.{ℕ, suc, ◌<◌}
use mathlib.Core.Path.{ap, ◌∙◌}
use lib.ListN.{length, get_or}
use Rattle.base_lists.specs.Cuts.{stretch}
use Rattle.tree_decode.proofs.Filling.{stretch-le, base-le, bound-more, from_more}
use Rattle.node_search.proofs.TextLaws.{text_in_lem}
use Rattle.tree_decode.proofs.sizes.sizes.Goals as goal

pub loop-i-init : goal.loop-i-init
loop-i-init c = ((λ j h. absurd (omega arith)), λ j h. absurd (omega arith))

pub above-base-requires : goal.above-base-requires
above-base-requires c = let wide = c.from-p.ensures in
    let loop-test = c.loop-i-test.true in
    omega (arith, wide, c.requires.2.low _ loop-test)

pub overflow_add-size : goal.overflow_add-size
overflow_add-size c = let wide2 = c.from-c.ensures in
    let wide2-result = c.from-c.result in
    let wide = c.from-p.ensures in
    let loop-test = c.loop-i-test.true in
    let i = c.loop-i.i in
    let inv = c.loop-i.invariant in
    let out = c.loop-i.out in
    let n = ap length (text_in_lem _ _ _ _ _ c.text_at-first.ensures.result_value (omega (arith, wide2, c.requires.2.few _ loop-test))) in
    let m = stretch-le c.args.t.now c.args.s.now.name_at c.args.s.now.name_len wide2-result in
    let b = base-le c.args.s.now.parent c.args.s.now.category out c.args.s.now.counts.nodes i c.requires.2 loop-test inv.1 wide c.above-base.ensures (omega (arith, n, m, c.requires.1)) in
    omega (arith, b)

pub overflow_add-size-in-loop-i : goal.overflow_add-size-in-loop-i
overflow_add-size-in-loop-i c = let t = c.args.t.now in let wide2 = c.from-c.ensures in
    let wide2-result = c.from-c.result in
    let wide = c.from-p.ensures in
    let loop-test = c.loop-i-test.true in
    let i = c.loop-i.i in
    let inv = c.loop-i.invariant in
    let out = c.loop-i.out in
    let n = ap length (text_in_lem _ _ _ _ _ c.text_at-first.ensures.result_value (omega (arith, wide2, c.requires.2.few _ loop-test))) in
    let m = stretch-le t c.args.s.now.name_at c.args.s.now.name_len wide2-result in
    let l = ap length (text_in_lem _ _ _ _ _ c.text_at-last.ensures.result_value (omega arith)) in
    let k = stretch-le t c.args.s.now.at c.args.s.now.len i in
    let b = base-le c.args.s.now.parent c.args.s.now.category out c.args.s.now.counts.nodes i c.requires.2 loop-test inv.1 wide c.above-base.ensures (omega (arith, n, m, c.requires.1)) in
    omega (arith, b, l, k, c.requires.1)

pub loop-i-preserved : goal.loop-i-preserved
loop-i-preserved c = let out = c.loop-i.out in
    let i = c.loop-i.i in
    let y : i < length out = omega arith in
    let n = ap length (text_in_lem _ _ _ _ _ c.text_at-first.ensures.result_value (omega (
      arith,
      c.from-c.ensures,
      c.requires.2.few _
          c.loop-i-test.true,
    ))) in
    let m = stretch-le c.args.t.now c.args.s.now.name_at c.args.s.now.name_len c.from-c.result in
    let l = ap length (text_in_lem _ _ _ _ _ c.text_at-last.ensures.result_value (omega arith)) in
    let k = stretch-le c.args.t.now c.args.s.now.at c.args.s.now.len i in
    let more : ℕ → ℕ = λ i. suc (length (stretch c.args.t.now c.args.s.now.at c.args.s.now.len i)) in (
      from_more c.args.s.now.parent c.args.s.now.category out c.args.s.now.counts.nodes i
          c.requires.2
          c.loop-i-test.true
          c.loop-i.invariant.1
          c.from-p.ensures c.above-base.ensures (omega (
            arith,
            n,
            m,
            c.requires.1,
          )) more _ (omega (arith, l)) (omega (
            arith,
            k,
            c.requires.1,
          )) y (λ i. length (stretch c.args.t.now c.args.s.now.name_at c.args.s.now.name_len (get_or c.args.s.now.category i 0)))
          (n ∙ ap (λ z. length (stretch c.args.t.now c.args.s.now.name_at c.args.s.now.name_len z))
          c.from-c.ensures) c.loop-i.invariant.0,
      bound-more c.args.s.now.parent c.args.s.now.category out c.args.s.now.counts.nodes i
          c.requires.2
          c.loop-i-test.true
          c.loop-i.invariant.1
          c.from-p.ensures c.above-base.ensures (omega (
            arith,
            n,
            m,
            c.requires.1,
          )) more _ (omega (arith, l)) (omega (arith, k, c.requires.1)) y,
    )

pub returns : goal.returns
returns c = λ j h. c.loop-i.invariant.0 j (omega arith)
