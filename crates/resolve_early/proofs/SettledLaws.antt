-- Laws of the test of a state on node numbers, each from the tests that lead to it.
use Prim.Native.Nat.{ℕ, ◌<◌, min}
use mathlib.Core.Path.{◌≡◌, refl, sym, ap, ◌∙◌}
use mathlib.Core.Bool.{Bool, true, false, cond, not, ◌&&◌}
use mathlib.Core.List.{List}
use lib.Dec.{eqb}
use lib.ListN.{get_or}
use borrow.Author.Tests.{lt-ltb, eq-eqb, ne_eqb}
use Rattle.base_numbers.specs.Numbers.{most_signals}
use Rattle.base_lists.specs.Lists.{all_below}
use Rattle.node_step.specs.Step.{digit, put, row_at, place_in, with_place}
use Rattle.node_step.specs.declared.stored.Packed.{Packed}
use Rattle.node_step.proofs.ByteLaws.{packed-eq}
use Rattle.node_step.proofs.PackedStep.{packed-exact}
use Rattle.resolve_early.specs.SettledBy.{keeps_at, beside, beside_keeps, signal_keeps, held_keeps, category_keeps}

-- a place of one of the 8 categories
pub place-of : (row c : ℕ) → c < 8 → {p : ℕ} → p ≡ place_in row c → p ≡ digit row c
unfolding place_in
place-of row c h e = e ∙ ap (λ b. cond b (digit row c) 0) (lt-ltb c 8 h)

pub beside-is : (row other c : ℕ) → c < 8 → {x p : ℕ} → p ≡ place_in other c → x ≡ with_place row c p → eqb x other ≡ beside row other c
unfolding with_place beside
beside-is row other c h {x} {p} e f =
    ap (λ z. eqb z other) (f ∙ ap (λ b. cond b (put row c p) row) (lt-ltb c 8 h) ∙ ap (put row c) (place-of other c h e))

module _ (rows ps : List ℕ) (inner : List Bool) (n : ℕ) (st : Packed) (c : ℕ) where
  module _ (row other : ℕ) {a : Bool} (e : a ≡ beside row other c) where
    pub beside-no : a ≡ false → true ≡ beside_keeps rows ps inner n st c row other
    unfolding beside_keeps
    beside-no z = sym (ap (λ b. cond b (keeps_at rows ps inner n st c (digit other c) true) true) (sym e ∙ z))

    pub beside-yes : a ≡ true → {p : ℕ} {b : Bool} → p ≡ digit other c → b ≡ keeps_at rows ps inner n st c p true
        → b ≡ beside_keeps rows ps inner n st c row other
    unfolding beside_keeps
    beside-yes z {p} i k =
        k ∙ ap (λ x. keeps_at rows ps inner n st c x true) i
        ∙ sym (ap (λ b. cond b (keeps_at rows ps inner n st c (digit other c) true) true) (sym e ∙ z))

  pub signal-is : (s : ℕ) {row : ℕ} {b : Bool} → row ≡ row_at rows st.signal → b ≡ beside_keeps rows ps inner n st c row (get_or rows s 0)
      → b ≡ signal_keeps rows ps inner n st c s
  unfolding signal_keeps
  signal-is s e k = k ∙ ap (λ z. beside_keeps rows ps inner n st c z (get_or rows s 0)) e

  abbrev rest : ℕ → Bool
  rest b = held_keeps rows ps inner n st c b && all_below (min n most_signals) (signal_keeps rows ps inner n st c)

  module _ {b : ℕ} (is : b ≡ digit st.statuses c) where
    pub category-shut : b ≡ 1 → true ≡ category_keeps rows ps inner n st c
    unfolding category_keeps
    category-shut e = sym (ap (λ z. cond z true (rest (digit st.statuses c))) (eq-eqb (digit st.statuses c) 1 (sym is ∙ e)))

    pub category-rest : (b ≡ 1 → ⊥) → {x : Bool} → x ≡ rest b → x ≡ category_keeps rows ps inner n st c
    unfolding category_keeps
    category-rest e i =
        i ∙ ap rest is ∙ sym (ap (λ z. cond z true (rest (digit st.statuses c))) (ne_eqb (digit st.statuses c) 1 (λ z. e (is ∙ z))))

  pub rest-no : (b : ℕ) {a : Bool} → a ≡ held_keeps rows ps inner n st c b → a ≡ false → false ≡ rest b
  rest-no b e z = sym (ap (λ x. x && all_below (min n most_signals) (signal_keeps rows ps inner n st c)) (sym e ∙ z))

  pub rest-on : (b : ℕ) {a r : Bool} → a ≡ held_keeps rows ps inner n st c b → a ≡ true
      → r ≡ all_below (min n most_signals) (signal_keeps rows ps inner n st c) → r ≡ rest b
  rest-on b e z i = i ∙ sym (ap (λ x. x && all_below (min n most_signals) (signal_keeps rows ps inner n st c)) (sym e ∙ z))

-- the same state is as settled as it was
pub same-settled : (f : Packed → Bool) (a b : Packed) {was n : Bool} → was ≡ f a → n ≡ not (eqb a.signal b.signal && eqb a.statuses b.statuses) → n ≡ false
    → was ≡ f b
same-settled f a b w e z = w ∙ ap f (packed-exact.to a b (sym (packed-eq a b) ∙ same (eqb a.signal b.signal && eqb a.statuses b.statuses) (sym e ∙ z)))
  where
    same : (x : Bool) → not x ≡ false → x ≡ true
    same true h = refl
    same false h = sym h
