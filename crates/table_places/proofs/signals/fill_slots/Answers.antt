use native.Mathlib.Omega.{arith}
use Prim.Native.Nat.{◌<◌, ◌+◌, ◌*◌}
use mathlib.Core.Path.{◌≡◌, ◌∙◌, ap}
use mathlib.Core.Bool.{false≢true}
use lib.ListN.{length, length-set}
use Rattle.base_numbers.specs.Numbers.{most_table_urns}
use Rattle.base_lists.proofs.Numbers.{two_bytes}
use Rattle.base_lists.proofs.Tests.{two-start, two_ends}
use Rattle.table_places.specs.Slots.{InRange, key_at, slot_in}
use Rattle.table_places.proofs.SlotLaws.{slot-start, slot_twice, slot-once, slot-put, slots-within}
use Rattle.table_places.proofs.FilledLaws.{slots-start, slots-far, slots-taken, slots-put, slots-all}
use Rattle.table_places.proofs.signals.fill_slots.Goals as goal

pub loop-i-init : goal.loop-i-init
loop-i-init c = (
  omega arith,
  λ j. omega (arith, c.requires.2 j),
  λ r. (two-start _ _, slot-start c.args.signal.now c.args.category.now c.args.slots.now c.requires.2),
  slots-start _ _ _ _,
)

pub returns-then-k-gt-LAST_SLOT : goal.returns-then-k-gt-LAST_SLOT
returns-then-k-gt-LAST_SLOT c = let wide2 = c.from-in-loop-i.ensures in let wide = c.from.ensures in
    let wide-result = c.from.result in
    let loop-test = c.loop-i-test.true in
    let i = c.loop-i.i in
    let inv = c.loop-i.invariant in
    let slots = c.loop-i.slots in
    let category = c.args.category.now in
    let m = c.args.m in
    let signal = c.args.signal.now in
    let the-slots = c.args.slots.now in
    let far : InRange signal category m → ⊥ = λ r. omega (arith, c.if-k-gt-LAST_SLOT.true, wide2, wide, r.0 _ loop-test, r.1 _ loop-test) in record { value = λ r. absurd (far r); filled = λ r. absurd (far r); few = inv.1; all = slots-far signal category m the-slots i slots inv.3 loop-test wide-result c.from-in-loop-i.result wide wide2 c.if-k-gt-LAST_SLOT.true }

pub loop-i-preserved : goal.loop-i-preserved
loop-i-preserved c = let category = c.args.category.now in let m = c.args.m in let signal = c.args.signal.now in let if2 = c.if-slots-k-ne0.false in
    let if1 = c.if-k-gt-LAST_SLOT.false in let wide2 = c.from-in-loop-i.ensures in
    let y = c.from-in-loop-i.result in
    let wide = c.from.ensures in
    let x = c.from.result in
    let loop-test = c.loop-i-test.true in
    let i = c.loop-i.i in
    let inv = c.loop-i.invariant in
    let slots = c.loop-i.slots in
    let k : 8 * x + y < length slots = omega (arith, if1, inv.0) in
    let w = two_bytes c.short.ensures (omega arith) in (
      length-set slots (8 * x + y) c.short.result ∙ inv.0,
      slots-within slots (8 * x + y) c.short.result most_table_urns inv.1 (omega (arith, w)) k,
      λ r. let h : y < 8 = omega (arith, wide2, r.1 _ loop-test) in let v = inv.2 r in (
        slot-once signal category slots i m x y wide wide2 h v.1 v.0 if2,
        slot-put signal category slots i m x y wide wide2 h v.1 _ w k,
      ),
      slots-put signal category m c.args.slots.now i slots inv.3 loop-test x y wide wide2 (omega (arith, if1)) if2 w,
    )

pub returns-then-slots-k-ne0 : goal.returns-then-slots-k-ne0
returns-then-slots-k-ne0 c = let category = c.args.category.now in let m = c.args.m in let signal = c.args.signal.now in
    let wide2 = c.from-in-loop-i.ensures in let wide2-result = c.from-in-loop-i.result in
    let wide = c.from.ensures in
    let wide-result = c.from.result in
    let loop-test = c.loop-i-test.true in
    let i = c.loop-i.i in
    let inv = c.loop-i.invariant in
    let slots = c.loop-i.slots in record {
      value = λ r. let h : wide2-result < 8 = omega (arith, wide2, r.1 _ loop-test) in
          slot_twice signal category slots i m _ _ wide wide2 h (inv.2 r).1 loop-test c.if-slots-k-ne0.true;
      filled = λ r e. absurd (false≢true e);
      few = inv.1;
      all = slots-taken signal category m c.args.slots.now i slots inv.3 loop-test wide-result wide2-result wide wide2
          (omega (arith, c.if-k-gt-LAST_SLOT.false)) c.if-slots-k-ne0.true;
    }

pub returns : goal.returns
returns c = let i = c.loop-i.i in let inv = c.loop-i.invariant in let category = c.args.category.now in
    let m = c.args.m in let signal = c.args.signal.now in
    let e : i ≡ m = omega arith in record { value = λ r. two_ends _ _ _ _ (inv.2 r).0 (omega arith) c.loop-i-test.false; filled = λ r _ s k h. (inv.2 r).1 s k h ∙ ap (slot_in (key_at signal category) s k) e; few = inv.1; all = slots-all signal category m c.args.slots.now i c.loop-i.slots inv.3 c.loop-i-test.false }
