use native.Mathlib.Omega.{arith}
use Prim.Native.Nat.{◌<◌}
use mathlib.Core.Path.{◌≡◌, refl, ◌∙◌, ap, sym}
use mathlib.Core.Bool.{false≢true}
use lib.ListN.{length-set}
use Rattle.base_numbers.specs.Numbers.{most_signals}
use Rattle.base_lists.proofs.Tests.{two-start, two_ends}
use Rattle.table_places.specs.Slots.{key_at, row_in, Fillable}
use Rattle.table_places.proofs.RowLaws.{row-start, bytes-start, row-twice, row-once, bytes_next, row_put}
use Rattle.node_step.proofs.PackedLaws.{place-in, put_in}
use Rattle.table_places.proofs.FilledLaws.{rows_start, rows-far, rows_taken, rows-put, rows_all}
use Rattle.table_places.proofs.places.fill_rows.Goals as goal

pub loop-i-init : goal.loop-i-init
loop-i-init c = (
  λ r. (
    r.2.0,
    two-start _ _,
    (λ s k. bytes-start _ _ s k),
    λ s h. r.2.1 s (omega arith) ∙ sym (row-start _ _ s),
  ),
  rows_start _ _ _ _ _,
)

pub returns-then-s-gt-LAST_SIGNAL : goal.returns-then-s-gt-LAST_SIGNAL
returns-then-s-gt-LAST_SIGNAL c = let category = c.args.category.now in let m = c.args.m in
    let node = c.args.node.now in let the-rows = c.args.rows.now in let signal = c.args.signal.now in
    let wide = c.from-s.ensures in let loop-test = c.loop-i-test.true in
    let i = c.loop-i.i in let inv = c.loop-i.invariant in
    let rows = c.loop-i.rows in
    let far : Fillable signal category node the-rows m → ⊥ = λ r. omega (arith, c.if-s-gt-LAST_SIGNAL.true, wide, r.0.0 _ loop-test) in record { value = λ r. absurd (far r); filled = λ r. absurd (far r); all = rows-far signal category node m the-rows i rows inv.1 loop-test c.from-s.result _ wide refl c.if-s-gt-LAST_SIGNAL.true }

pub loop-i-preserved : goal.loop-i-preserved
loop-i-preserved c = let category = c.args.category.now in let node = c.args.node.now in let signal = c.args.signal.now in
    let if2 = c.if-place_in-ne0.false in let the-place-in = c.place_in.ensures in
    let wide2 = c.from-c.ensures in
    let wide2-result = c.from-c.result in
    let if1 = c.if-s-gt-LAST_SIGNAL.false in
    let wide = c.from-s.ensures in
    let wide-result = c.from-s.result in
    let i = c.loop-i-test.true in
    let the-i = c.loop-i.i in
    let inv = c.loop-i.invariant in
    let rows = c.loop-i.rows in (
      λ r. let v = inv.0 r in let h : wide2-result < 8 = omega (arith, wide2, r.0.1 _ i) in let k : wide-result < most_signals =
          omega (arith, if1) in let e = wide in let g = wide2 in (
            length-set rows wide-result c.with_place.result ∙ v.0,
            row-once signal category node rows the-i wide-result wide2-result e g h v.2 v.3 k (λ j w. (r.1 j (omega arith)).0) v.1
                (sym (the-place-in ∙ place-in _ _ h) ∙ if2),
            bytes_next signal category node rows the-i wide-result wide2-result e g h v.2 v.3 k (omega (arith, (r.1 _ i).1)),
            row_put signal category node rows the-i wide-result wide2-result e g h v.2 v.3 k c.with_place.result _
                (c.with_place.ensures ∙ put_in _ _ _ h) refl v.0,
          ),
      rows-put signal category node c.args.m c.args.rows.now the-i rows inv.1 i wide-result wide2-result wide wide2
          (omega (arith, if1)) (sym the-place-in ∙ if2) c.with_place.ensures,
    )

pub returns-then-place_in-ne0 : goal.returns-then-place_in-ne0
returns-then-place_in-ne0 c = let category = c.args.category.now in let m = c.args.m in let node = c.args.node.now in let signal = c.args.signal.now in
    let the-place-in = c.place_in.ensures in let wide2 = c.from-c.ensures in
    let wide2-result = c.from-c.result in
    let if1 = c.if-s-gt-LAST_SIGNAL.false in
    let wide = c.from-s.ensures in
    let wide-result = c.from-s.result in
    let i = c.loop-i-test.true in
    let the-i = c.loop-i.i in
    let inv = c.loop-i.invariant in
    let rows = c.loop-i.rows in record {
      value = λ r. let v = inv.0 r in let h : wide2-result < 8 = omega (arith, wide2, r.0.1 _ i) in let k : wide-result < most_signals = omega (
        arith,
        if1,
      ) in row-twice signal category node rows the-i wide-result wide2-result wide wide2 h v.2 v.3 k m i
          (λ z. c.if-place_in-ne0.true (the-place-in ∙ place-in _ _ h ∙ z));
      filled = λ r e. absurd (false≢true e);
      all = rows_taken signal category node m c.args.rows.now the-i rows inv.1 i wide-result wide2-result wide wide2 (omega (
        arith,
        if1,
      )) (λ z. c.if-place_in-ne0.true (the-place-in ∙ z));
    }

pub returns : goal.returns
returns c = let category = c.args.category.now in let m = c.args.m in let node = c.args.node.now in
    let signal = c.args.signal.now in let i = c.loop-i.i in let inv = c.loop-i.invariant in
    let e : i ≡ m = omega arith in record { value = λ r. two_ends _ _ _ _ (inv.0 r).1 (omega arith) c.loop-i-test.false; filled = (λ r _. let v = inv.0 r in (v.0, λ s h. v.3 s h ∙ ap (row_in (key_at signal category) node s) e)); all = rows_all signal category node m c.args.rows.now i c.loop-i.rows inv.1 c.loop-i-test.false }
