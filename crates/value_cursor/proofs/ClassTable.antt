-- A table of classes agrees with the byte rules: one test, which antt computes over its 256 entries, and one law.
-- Assumes nothing.
use mathlib.Core.Path.{◌≡◌, refl, sym, ap, ap₂, ◌∙◌, subst}
use mathlib.Core.Logic.{⊎_elim}
use native.Mathlib.Nat.{not-suc-le-zero, le_of_suc-le-suc, eq-or-lt_of_le}
use mathlib.Core.List.{List}
use mathlib.Core.Bool.{Bool, true, false, ◌&&◌, and_assoc}
use Prim.Native.Nat.{ℕ, zero, suc, ◌/◌, ◌%◌, ◌^◌, ◌<◌}
use native.Mathlib.Omega.{arith}
use borrow.Author.Tests.{eqb-true}
use lib.Dec.{T, eqb}
use lib.Bits.{bit_and, and_shr, and_mod}
use lib.ListN.{length, get_or}
use Rattle.value_cursor.specs.Bytes.{Classes, in_class}
use Rattle.value_cursor.proofs.Table.{at, both, every}

abbrev pub same_b : Bool → Bool → Bool
same_b true b = b
same_b false true = false
same_b false false = true

-- bit k of the entry x says whether b is in class k
abbrev bit : ℕ → ℕ → Bool
bit k x = eqb (x / 2 ^ k % 2) 1

-- the test f passes at each number below n
abbrev pub below : ℕ → (ℕ → Bool) → Bool
below zero f = true
below (suc n) f = both (f n) (below n f)

left : (a b : Bool) → T (both a b) → T a
left true b t = tt
left false b t = t

rest : (a b : Bool) → T (both a b) → T b
rest true b t = t
rest false b t = absurd t

pub at-below : (n : ℕ) (f : ℕ → Bool) → T (below n f) → (k : ℕ) → k < n → T (f k)
at-below zero f t k h = absurd (not-suc-le-zero h)
at-below (suc n) f t k h =
    ⊎_elim (λ e. subst (λ (m : ℕ). T (f m)) (sym e) (left (f n) (below n f) t))
    (λ l. at-below n f (rest (f n) (below n f) t) k l) (eq-or-lt_of_le (le_of_suc-le-suc h))

-- the entry x has the bits of the classes that b is in
unfoldable pub right : ℕ → ℕ → Bool
right b x = below 5 (λ k. same_b (bit k x) (in_class k b))

pub same : (a b : Bool) → T (same_b a b) → a ≡ b
same true true t = refl
same true false t = absurd t
same false true t = absurd t
same false false t = refl

-- the test of a whole table
unfoldable pub agrees : List ℕ → Bool
agrees t = both (eqb (length t) 256) (every right 0 t)

-- a table that passes the test is a table of classes
pub table-right : (t : List ℕ) → T (agrees t) → Classes t
unfolding agrees right Classes
table-right t h k b hk hb =
    let n : length t ≡ 256 = eqb-true (length t) 256
    (is_true (eqb (length t) 256) (left (eqb (length t) 256) (every right 0 t) h)) in
    let e = at right t (rest (eqb (length t) 256) (every right 0 t) h) b (omega arith) in
    same _ _ (at-below 5 (λ i. same_b (bit i (get_or t b 0)) (in_class i b)) e k hk)
  where
    is_true : (x : Bool) → T x → x ≡ true
    is_true true u = refl
    is_true false u = absurd u

digits : (i j : ℕ) → i < 2 → j < 2 → eqb (bit_and i j) 1 ≡ (eqb i 1 && eqb j 1)
digits zero zero h l = refl
digits zero (suc zero) h l = refl
digits (suc zero) zero h l = refl
digits (suc zero) (suc zero) h l = refl
digits (suc (suc i)) j h l = absurd (omega arith)
digits zero (suc (suc j)) h l = absurd (omega arith)
digits (suc zero) (suc (suc j)) h l = absurd (omega arith)

-- what two entries have in common has a class's bit if both have it
both_bits : (k x y : ℕ) → bit k (bit_and x y) ≡ (bit k x && bit k y)
both_bits k x y =
    ap (λ z. eqb (z % 2) 1) (and_shr x y k) ∙ ap (λ z. eqb z 1) (and_mod (x / 2 ^ k) (y / 2 ^ k) 1)
    ∙ digits (x / 2 ^ k % 2) (y / 2 ^ k % 2) (omega arith) (omega arith)

-- the same of four entries of a table, x to w, for the bytes a to d
module _ (t : List ℕ) (right-table : Classes t) (k : ℕ) (hk : k < 5) {a b c d x y z w : ℕ}
    (ha : a < 256) (hb : b < 256) (hc : c < 256) (hd : d < 256)
    (ex : x ≡ get_or t a 0) (ey : y ≡ get_or t b 0) (ez : z ≡ get_or t c 0) (ew : w ≡ get_or t d 0) where
  entry : {b x : ℕ} → b < 256 → x ≡ get_or t b 0 → bit k x ≡ in_class k b
  unfolding Classes
  entry {b} h e = ap (bit k) e ∙ right-table k b hk h

  pub four-right : bit k (bit_and (bit_and x y) (bit_and z w)) ≡ (in_class k a && (in_class k b && (in_class k c && in_class k d)))
  four-right =
      both_bits k (bit_and x y) (bit_and z w) ∙ ap₂ (λ p q. p && q) (both_bits k x y) (both_bits k z w)
      ∙ and_assoc (bit k x) (bit k y) (bit k z && bit k w)
      ∙ ap₂ (λ p q. p && q) (entry ha ex) (ap₂ (λ p q. p && q) (entry hb ey) (ap₂ (λ p q. p && q) (entry hc ez) (entry hd ew)))
