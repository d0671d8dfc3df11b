-- Laws of the slots, one URN further.
use Prim.Native.Nat.{ℕ, suc, zero, ◌+◌, ◌*◌, ◌≤◌, ◌<◌}
use mathlib.Core.Path.{◌≡◌, refl, ap, ap₂, sym, ◌∙◌, subst}
use mathlib.Core.Bool.{Bool, true, false, cond, ◌&&◌, and-eq-true_iff, true≢false}
use mathlib.Core.List.{List, [], ◌∷◌, ◌++◌}
use native.Mathlib.Numerals.{add-one}
use native.Mathlib.Omega.{arith}
use lib.ListN.{length, get_or, set}
use lib.Seq.{get_or-set_same, get_or-set_other}
use lib.Dec.{eqb}
use borrow.Author.Tests.{eq-eqb, eqb-true, eqb-false, ne_eqb}
use Rattle.base_lists.proofs.Tests.{two-fails, two-next}
use Rattle.base_lists.specs.Tests.{any, no_two}
use Rattle.base_lists.specs.Lists.{tabulate}
use Rattle.base_lists.proofs.Bools.{by_test}
use Rattle.table_sections.specs.Held.{Tagged, tag}
use Rattle.table_places.specs.Slots.{key_at, same_key, slot_in}

any-tab : {A : Type 0} (p : A → Bool) (l : List A) (x : A) → any p (l ++ x ∷ []) ≡ cond (any p l) true (p x)
unfolding any
any-tab p [] x = by_test (p x) (λ e. simp e) (λ e. simp e)
any-tab p (y ∷ l) x = by_test (p y) (λ e. simp e) (λ e. simp e (any-tab p l x))

key-sym : (x y : Tagged ℕ) → same_key x y ≡ same_key y x
key-sym x y = ap₂ ◌&&◌ (eqb-sym x.signal y.signal) (eqb-sym x.what y.what)
  where
    eqb-sym : (m n : ℕ) → eqb m n ≡ eqb n m
    eqb-sym m n = by_test (eqb m n) (λ e. e ∙ sym (eq-eqb n m (sym (eqb-true m n e)))) (λ e. e ∙ sym (ne_eqb n m (λ q. eqb-false m n e (sym q))))

module _ (f : ℕ → Tagged ℕ) (s c : ℕ) where
  pub slot-none : (n : ℕ) → slot_in f s c n ≡ 0 → any (λ y. same_key y (tag s c)) (tabulate f n) ≡ false
  unfolding slot_in tabulate any
  slot-none zero e = refl
  slot-none (suc n) e = by_test (same_key (tag s c) (f n))
      (λ b. let z : suc n ≡ 0 = rw b at e in absurd (omega arith))
      (λ b. any-tab (λ y. same_key y (tag s c)) (tabulate f n) (f n) ∙ rw (slot-none n (rw b at e)) (key-sym (f n) (tag s c) ∙ b))

  pub slot-some : (n : ℕ) → (slot_in f s c n ≡ 0 → ⊥) → any (λ y. same_key y (tag s c)) (tabulate f n) ≡ true
  unfolding slot_in tabulate any
  slot-some zero e = absurd (e refl)
  slot-some (suc n) e = by_test (same_key (tag s c) (f n))
      (λ b. any-tab (λ y. same_key y (tag s c)) (tabulate f n) (f n) ∙ rw (key-sym (f n) (tag s c) ∙ b) (both (any (λ y. same_key y (tag s c)) (tabulate f n))))
      (λ b. any-tab (λ y. same_key y (tag s c)) (tabulate f n) (f n) ∙ rw (slot-some n (λ z. e (rw b z))))
    where
      both : (b : Bool) → cond b true true ≡ true
      both true = refl
      both false = refl

-- a slot that is taken is its URN's
pub slot-key : (f : ℕ → Tagged ℕ) (s c n i : ℕ) → slot_in f s c n ≡ suc i → (i < n) × (same_key (tag s c) (f i) ≡ true)
unfolding slot_in
slot-key f s c zero i e = let z : ◌≡◌ {A = ℕ} 0 (suc i) = e in absurd (omega arith)
slot-key f s c (suc n) i e =
    by_test (same_key (tag s c) (f n))
    (λ b. let z : n ≡ i = omega (arith, rw b at e) in (omega arith, subst (λ (k : ℕ). same_key (tag s c) (f k) ≡ true) z b))
    (λ b. let r = slot-key f s c n i (rw b at e) in (omega (arith, r.0), r.1))

-- the i-th URN, of signal x and category y, is put into its slot
module _ (signal category slots : List ℕ) (i m x y : ℕ) (e : x ≡ get_or signal i 0) (g : y ≡ get_or category i 0) (h : y < 8)
    (v : (s c : ℕ) → c < 8 → get_or slots (8 * s + c) 0 ≡ slot_in (key_at signal category) s c i) where
  here : get_or slots (8 * x + y) 0 ≡ slot_in (key_at signal category) (get_or signal i 0) (get_or category i 0) i
  here = v x y h ∙ ap₂ (λ s c. slot_in (key_at signal category) s c i) e g

  pub slot_twice : i < m → (get_or slots (8 * x + y) 0 ≡ 0 → ⊥) → false ≡ no_two same_key (tabulate (key_at signal category) m)
  slot_twice l n = two-fails same_key (key_at signal category) i m l (slot-some (key_at signal category) (get_or signal i 0) (get_or category i 0)
      i (λ z. n (here ∙ z)))

  pub slot-once : no_two same_key (tabulate (key_at signal category) i) ≡ true → get_or slots (8 * x + y) 0 ≡ 0
      → no_two same_key (tabulate (key_at signal category) (i + 1)) ≡ true
  slot-once w n = two-next same_key (key_at signal category) i m w (slot-none (key_at signal category) (get_or signal i 0) (get_or category i 0) i (sym here ∙ n))

  pub slot-put : (r : ℕ) → r ≡ i + 1 → 8 * x + y < length slots
      → (s c : ℕ) → c < 8 → get_or (set slots (8 * x + y) r) (8 * s + c) 0 ≡ slot_in (key_at signal category) s c (i + 1)
  unfolding slot_in
  slot-put r q l s c k = rw add-one (by_test (same_key (tag s c) (key_at signal category i))
      (λ b.
      let a = (and-eq-true_iff (eqb s (get_or signal i 0)) (eqb c (get_or category i 0))).0 b in
      let o : s ≡ x = eqb-true s (get_or signal i 0) a.0 ∙ sym e in
      let p : c ≡ y = eqb-true c (get_or category i 0) a.1 ∙ sym g in
      rw b (rw (o, p) (get_or-set_same slots (8 * x + y) r 0 l) ∙ q ∙ add-one i))
      (λ b. rw b (get_or-set_other slots (8 * x + y) (8 * s + c) r 0
      (λ z.
      let o : s ≡ x = omega arith in
      let p : c ≡ y = omega arith in
      let w : same_key (tag s c) (key_at signal category i) ≡ true = ap₂ ◌&&◌ (eq-eqb s (get_or signal i 0) (o ∙ e)) (eq-eqb c (get_or category i 0) (p ∙ g)) in
      true≢false (sym w ∙ b))
      ∙ v s c k)))

pub slot-start : (signal category slots : List ℕ) → ((k : ℕ) → get_or slots k 0 ≡ 0) → (s c : ℕ) → c < 8 → get_or slots (8 * s + c) 0
    ≡ slot_in (key_at signal category) s c 0
unfolding slot_in
slot-start signal category slots z s c h = z (8 * s + c)

-- no slot is over the number of the URNs
pub slots-within : (slots : List ℕ) (k x m : ℕ) → ((j : ℕ) → get_or slots j 0 ≤ m) → x ≤ m → k < length slots → (j : ℕ) → get_or (set slots k x) j 0 ≤ m
slots-within slots k x m v h l j = by_test (eqb j k)
    (λ b. let e : get_or (set slots k x) j 0 ≡ x = ap (λ i. get_or (set slots k x) i 0) (eqb-true j k b) ∙ get_or-set_same slots k x 0 l in omega (arith, e))
    (λ b. omega (arith, get_or-set_other slots k j x 0 (eqb-false j k b), v j))
