-- Laws of the text definitions at a turn of a loop: one byte further.
use Prim.Native.Nat.{ℕ, suc, zero, ◌+◌, ◌-◌, ◌≤◌, ◌<◌, min}
use mathlib.Core.Path.{◌≡◌, refl, ap, sym, ◌∙◌}
use mathlib.Core.Bool.{Bool, true, false, cond, not, ◌&&◌, and-false, and-eq-true_iff, false≢true}
use mathlib.Core.List.{List, [], ◌∷◌, map}
use native.Mathlib.Numerals.{add-one}
use native.Mathlib.Omega.{arith}
use native.Mathlib.Nat.{zero-add, add-zero}
use native.Mathlib.Decide.{dec_le}
use lib.ListN.{length, get_or, drop, drop_of_length-le}
use lib.Seq.{drop-cons}
use lib.Dec.{eqb, ltb}
use borrow.Author.Tests.{eq-eqb, ne_eqb, eqb-true, eqb-false, lt-ltb, le-ltb, ltb-true, ltb-false, not-true}
use Rattle.std.proofs.lemmas.Bool.Decides.{nat_tests}
use Rattle.std.proofs.lemmas.List.{map-id, get_or-map}
use Rattle.base_lists.proofs.Bools.{by_test}
use Rattle.base_lists.specs.Numbers.{word_of}
use Rattle.theory_resolution.specs.Names.{same_name}
use Rattle.theory_resolution.proofs.Names.{name-exact}
use Rattle.base_text.specs.Text.{covers, common}
use Rattle.base_text.specs.Words.{as_is, common_next, differ_at, ends_differ, ends_at}
use Rattle.base_text.proofs.Fields.{covers_bytes, covers-fields}

-- a byte of a text as its bytes are taken
pub taken-at : (f : ℕ → ℕ) (s : List ℕ) (i : ℕ) → i < length s → get_or (map f s) i 0 ≡ f (get_or s i 0)
taken-at f s i h = get_or-map f s i 0 0 h

pub taken-bytes : (f : ℕ → ℕ) (s : List ℕ) → ((x : ℕ) → x < 256 → f x < 256) → ((k : ℕ) → get_or s k 0 < 256) → (k : ℕ) → get_or (map f s) k 0 < 256
taken-bytes f [] b h k = omega arith
taken-bytes f (x ∷ s) b h zero = b x (h 0)
taken-bytes f (x ∷ s) b h (suc k) = taken-bytes f s b (λ j. h (suc j)) k

pub as_is-word : (s : List ℕ) (i : ℕ) → word_of s i 8 ≡ word_of (map as_is s) i 8
as_is-word s i = ap (λ (l : List ℕ). word_of l i 8) (sym (map-id s))

pub same-lengths : (a b : List ℕ) → (length a ≡ length b → ⊥) → false ≡ same_name a b
same-lengths a b n = by_test (same_name a b) (λ e. absurd (n (ap length (name-exact.to a b e)))) (λ e. sym e)

-- a text does not differ from itself at its end
ends-alike : (a : List ℕ) → ends_differ a a ≡ false
unfolding ends_differ
ends-alike a =
    rw (eq-eqb (length a) (length a) refl, eq-eqb (get_or a (length a - 1) 0) (get_or a (length a - 1) 0) refl)
    (go (eqb (length a) 0) (ltb (length a) 8) (eqb (word_of a (length a - 8) 8) (word_of a (length a - 8) 8))
    (eq-eqb (word_of a (length a - 8) 8) (word_of a (length a - 8) 8) refl))
  where
    go : (b c d : Bool) → d ≡ true → cond b false (cond c (not true) (not d)) ≡ false
    go true c d e = refl
    go false true d e = refl
    go false false d e = ap not e

-- texts that differ at their ends are not equal
pub ends-other : (a b : List ℕ) → ends_differ a b ≡ true → false ≡ same_name a b
ends-other a b e =
    by_test (same_name a b) (λ t. absurd (false≢true (sym (ends-alike a) ∙ ap (ends_differ a) (name-exact.to a b t) ∙ e))) (λ t. sym t)

-- what two texts have in common, one byte or some bytes further
module _ (a b : List ℕ) (i : ℕ) {x : ℕ} (v : x ≡ i + common (drop i a) (drop i b)) where
  pub common-more : i < length a → i < length b → get_or a i 0 ≡ get_or b i 0 → x ≡ i + 1 + common (drop (i + 1) a) (drop (i + 1) b)
  unfolding common
  common-more h k e =
      let c = common (drop (suc i) a) (drop (suc i) b) in
      let j : i + suc c ≡ suc i + c = omega arith in
      v ∙ rw (add-one, drop-cons a i 0 h, drop-cons b i 0 k, eq-eqb (get_or a i 0) (get_or b i 0) e) j

  pub common-less : i < length a → i < length b → (get_or a i 0 ≡ get_or b i 0 → ⊥) → i ≡ x
  unfolding common
  common-less h k e = sym (v ∙ rw (drop-cons a i 0 h, drop-cons b i 0 k, ne_eqb (get_or a i 0) (get_or b i 0) e) (add-zero i))

  pub common-end : min (length a) (length b) ≤ i → i ≡ x
  unfolding common
  common-end h = sym (v ∙ go (dec_le (length a) i))
    where
      short : (l : List ℕ) → common l [] ≡ 0
      short [] = refl
      short (y ∷ l) = refl

      go : Dec (length a ≤ i) → i + common (drop i a) (drop i b) ≡ i
      go (yes p) = rw (drop_of_length-le a {i = i} p) (add-zero i)
      go (no p) = rw (drop_of_length-le b {i = i} (omega arith), short (drop i a)) (add-zero i)

-- past where one of two texts ends: at the byte r, which is i if it is past the byte from which on they were compared
pub common-past : (a b : List ℕ) (from i : ℕ) {r : ℕ} → (from < r → i ≡ r) → from ≤ r → min (length a) (length b) ≤ r
    → from + common (drop from a) (drop from b) ≡ i + common (drop i a) (drop i b) → r ≡ from + common (drop from a) (drop from b)
common-past a b from i {r} e h k v = elim (dec_le r from) [
  | yes p ↦ let q : r ≡ from = omega arith in common-end a b r (ap (λ (j : ℕ). j + common (drop j a) (drop j b)) (sym q)) k
  | no p ↦ common-end a b r (v ∙ ap (λ (j : ℕ). j + common (drop j a) (drop j b)) (e (omega arith))) k
]

pub commons-more : (a b : List ℕ) (n i : ℕ) {x : ℕ} → ((k : ℕ) → get_or a k 0 < 256) → ((k : ℕ) → get_or b k 0 < 256) → x ≡ i + common (drop i a) (drop i b)
    → i + n ≤ length a → i + n ≤ length b → word_of a i n ≡ word_of b i n → x ≡ i + n + common (drop (i + n) a) (drop (i + n) b)
commons-more a b zero i p q v h k e = let z : i + 0 ≡ i = omega arith in rw z v
commons-more a b (suc n) i p q v h k e =
    let x = p i in
    let y = q i in
    let first : get_or a i 0 ≡ get_or b i 0 = omega arith in
    let rest : word_of a (i + 1) n ≡ word_of b (i + 1) n = omega arith in
    let z : i + suc n ≡ i + 1 + n = omega arith in
    rw z (commons-more a b n (i + 1) p q (common-more a b i v (omega arith) (omega arith) first) (omega arith) (omega arith) rest)

-- what a text has in common with w, by what another has with both
next-none : (p w : List ℕ) → common_next p w 0 0 ≡ common p w
unfolding common_next
next-none p w = zero-add (common p w)

next-zero : (p w : List ℕ) (k : ℕ) → common p w ≡ 0 → common_next p w k 0 ≡ 0
unfolding common_next
next-zero p w k e = by_test (eqb k 0) (λ q. rw (q, eqb-true k 0 q) (zero-add (common p w) ∙ e)) (λ q. rw q (omega arith))

next-over : (p w : List ℕ) (l : ℕ) → common p w ≡ 0 → common_next p w 0 l ≡ 0
unfolding common_next
next-over p w l e = by_test (eqb 0 l) (λ q. rw q (zero-add (common p w) ∙ e)) (λ q. rw q (omega arith))

next-further : (y z : ℕ) (p w : List ℕ) (k l : ℕ) → common_next (y ∷ p) (z ∷ w) (suc k) (suc l) ≡ suc (common_next p w k l)
unfolding common_next
next-further y z p w k l =
    by_test (eqb k l)
    (λ e. rw (e, eq-eqb (suc k) (suc l) (ap suc (eqb-true k l e))) (omega arith))
    (λ e. rw (e, ne_eqb (suc k) (suc l) (λ q. eqb-false k l e (omega arith))) (omega arith))

pub common-three : (a p w : List ℕ) → common_next p w (common a w) (common a p) ≡ common p w
unfolding common
common-three [] p w = next-none p w
common-three (x ∷ a) [] w = next-zero [] w (common (x ∷ a) w) refl
common-three (x ∷ a) (y ∷ p) [] = next-over (y ∷ p) [] (common (x ∷ a) (y ∷ p)) refl
common-three (x ∷ a) (y ∷ p) (z ∷ w) =
    by_test (eqb x z)
    (λ d. by_test (eqb x y)
    (λ e.
    let q : eqb y z ≡ true = eq-eqb y z (sym (eqb-true x y e) ∙ eqb-true x z d) in
    rw (d, e, q) (next-further y z p w (common a w) (common a p) ∙ ap suc (common-three a p w)))
    (λ e.
    let q : eqb y z ≡ false = ne_eqb y z (λ i. eqb-false x y e (eqb-true x z d ∙ sym i)) in
    rw (d, e, q) (next-zero (y ∷ p) (z ∷ w) (suc (common a w)) (rw q))))
    (λ d. by_test (eqb x y)
    (λ e.
    let q : eqb y z ≡ false = ne_eqb y z (λ i. eqb-false x z d (eqb-true x y e ∙ i)) in
    rw (d, e, q) (next-over (y ∷ p) (z ∷ w) (suc (common a p)) (rw q)))
    (λ e. rw (d, e) (next-none (y ∷ p) (z ∷ w))))

pub next-equal : (p w : List ℕ) (k l : ℕ) {r : ℕ} → k ≡ l → r ≡ k + common (drop k p) (drop k w) → r ≡ common_next p w k l
unfolding common_next
next-equal p w k l e f = f ∙ sym (ap (λ b. cond b (k + common (drop k p) (drop k w)) (min k l)) (eq-eqb k l e))

pub next-lesser : (p w : List ℕ) (k l : ℕ) {r : ℕ} → (k ≡ l → ⊥) → r ≡ min k l → r ≡ common_next p w k l
unfolding common_next
next-lesser p w k l e f = f ∙ sym (ap (λ b. cond b (k + common (drop k p) (drop k w)) (min k l)) (ne_eqb k l e))

-- texts that agree up to a byte, and differ there
pub differ-next : (p w : List ℕ) (n : ℕ) → differ_at p w n ≡ true → (n < length p) × (common_next p w n n ≡ n)
unfolding differ_at common_next common
differ-next p w n e =
    let a = (and-eq-true_iff (ltb n (length p)) (ltb n (length w) && not (eqb (get_or p n 0) (get_or w n 0)))).0 e in
    let b = (and-eq-true_iff (ltb n (length w)) (not (eqb (get_or p n 0) (get_or w n 0)))).0 a.1 in
    let h = ltb-true n (length p) a.0 in
    (h, rw (eq-eqb n n refl, drop-cons p n 0 h, drop-cons w n 0 (ltb-true n (length w) b.0), not-true (eqb (get_or p n 0) (get_or w n 0)) b.1) (add-zero n))

-- not more than there are
pub common-le : (p w : List ℕ) → common p w ≤ length w
unfolding common
common-le [] w = omega arith
common-le (x ∷ p) [] = omega arith
common-le (x ∷ p) (y ∷ w) = by_test (eqb x y) (λ e. rw e (omega (arith, common-le p w))) (λ e. rw e (omega arith))

-- p covers w exactly where all of p is at the beginning of w, and a part of w ends there
covers_less : (p w : List ℕ) → common p w < length p → covers_bytes p w ≡ false
unfolding covers_bytes common
covers_less [] w h = absurd (omega arith)
covers_less (x ∷ p) [] h = refl
covers_less (x ∷ p) (y ∷ w) h =
    by_test (eqb x y)
    (λ e. let k : common p w < length p = omega (arith, simp e at h) in ap (λ b. eqb x y && b) (covers_less p w k) ∙ and-false (eqb x y))
    (λ e. simp e)

ends-further : (y : ℕ) (w : List ℕ) (n : ℕ) → ends_at w n ≡ ends_at (y ∷ w) (suc n)
unfolding ends_at
ends-further y w n =
    by_test (ltb n (length w))
    (λ e. rw (e, lt-ltb (suc n) (suc (length w)) (omega (arith, ltb-true n (length w) e))))
    (λ e. rw (e, le-ltb (suc n) (suc (length w)) (omega (arith, ltb-false n (length w) e))))

covers-whole : (p w : List ℕ) → length p ≤ common p w → covers_bytes p w ≡ ends_at w (length p)
unfolding covers_bytes common ends_at
covers-whole [] [] h = refl
covers-whole [] (y ∷ w) h = sym (rw (lt-ltb 0 (suc (length w)) (omega arith)))
covers-whole (x ∷ p) [] h = absurd (omega arith)
covers-whole (x ∷ p) (y ∷ w) h =
    by_test (eqb x y)
    (λ e. let k : length p ≤ common p w = omega (arith, simp e at h) in simp e (covers-whole p w k ∙ ends-further y w (length p)))
    (λ e. absurd (omega (arith, simp e at h)))

-- a text that covers another of its length is it
level-bytes : (p w : List ℕ) → covers_bytes p w ≡ true → eqb (length p) (length w) ≡ same_name p w
unfolding covers_bytes
level-bytes [] [] h = refl
level-bytes [] (y ∷ w) h = ne_eqb 0 (suc (length w)) (λ z. omega arith)
level-bytes (x ∷ p) [] h = ne_eqb (suc (length p)) 0 (λ z. omega arith)
level-bytes (x ∷ p) (y ∷ w) h =
    let a = (and-eq-true_iff (eqb x y) (covers_bytes p w)).0 h in
    same_length (length p) (length w) ∙ level-bytes p w a.1 ∙ sym (rw a.0)
  where
    same_length : (n m : ℕ) → eqb (suc n) (suc m) ≡ eqb n m
    same_length n m =
        by_test (eqb n m)
        (λ e. rw (e, eq-eqb (suc n) (suc m) (ap suc (eqb-true n m e))))
        (λ e. rw (e, ne_eqb (suc n) (suc m) (λ z. eqb-false n m e (omega arith))))

pub covers-level : (p w : List ℕ) → covers p w ≡ true → eqb (length p) (length w) ≡ same_name p w
covers-level p w e = level-bytes p w (sym (covers-fields p w) ∙ e)

module _ (p w : List ℕ) {k : ℕ} (e : k ≡ common p w) where
  pub covers-not : k < length p → covers p w ≡ false
  covers-not h = covers-fields p w ∙ covers_less p w (omega arith)

  pub covers-ends : length p ≤ k → covers p w ≡ ends_at w (length p)
  covers-ends h = covers-fields p w ∙ covers-whole p w (omega arith)

-- what a test of two ends needs
pub ruleset at_ends = (nat_tests, map-id)
