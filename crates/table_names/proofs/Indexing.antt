-- Laws of the URNs' categories and paths.
use Prim.Native.Nat.{ℕ, suc, zero, ◌+◌, ◌-◌, ◌≤◌, ◌<◌}
use mathlib.Core.Path.{◌≡◌, refl, ap, ap₂, sym, ◌∙◌, subst}
use mathlib.Core.Logic.{◌⊎◌, inl, inr}
use mathlib.Core.Bool.{Bool, true, false}
use mathlib.Core.List.{List, [], ◌∷◌}
use native.Mathlib.Numerals.{add-one}
use native.Mathlib.Omega.{arith}
use native.Mathlib.Nat.{sub-zero}
use lib.ListN.{length, get_or, set, take, drop, length-take, length-drop, drop_of_length-le}
use lib.Seq.{get_or-set_same, get_or-set_other, drop-drop, take-nil}
use lib.Dec.{eqb, ltb}
use borrow.Author.Tests.{eqb-true, eqb-false, ltb-true, ltb-false}
use Rattle.base_numbers.specs.Numbers.{most_table_bytes}
use Rattle.base_lists.specs.Lists.{member_by, index_by}
use Rattle.base_lists.proofs.Cuts.{up_to-take, past-drop}
use Rattle.base_lists.proofs.Bools.{by_test}
use Rattle.base_lists.specs.Cuts.{up_to, stretch}
use Rattle.urn_names.specs.Urn.{category_of, path_of}
use Rattle.theory_resolution.specs.Names.{same_name}
use Rattle.table_names.specs.Categories.{is_listed, Indexed}
use Rattle.table_sections.proofs.Readings.{stretch-set, stretch-keep}

-- a byte of the table before the end of a part is a byte of the table
pub part-inside : (t : List ℕ) (a n e : ℕ) {u : List ℕ} → u ≡ take n (drop a t) → e ≤ length u → length t ≤ most_table_bytes → a < 65536 → a + e < 65536
part-inside t a n e g h k l =
    let x = length-take n (drop a t) in
    let y = length-drop a t in
    omega (arith, ap length g, x, y)

take_part : (n e : ℕ) (x : List ℕ) → e ≤ length (take n x) → take (length (take n x) - e) (drop e x) ≡ drop e (take n x)
take_part n zero x h = rw sub-zero (again n x)
  where
    again : (n : ℕ) (x : List ℕ) → take (length (take n x)) x ≡ take n x
    again zero x = refl
    again (suc n) [] = refl
    again (suc n) (y ∷ x) = ap (λ (l : List ℕ). y ∷ l) (again n x)
take_part zero (suc e) x h = absurd (omega arith)
take_part (suc n) (suc e) [] h = take-nil (0 - suc e)
take_part (suc n) (suc e) (y ∷ x) h = let q : suc (length (take n x)) - suc e ≡ length (take n x) - e = omega arith in rw q (take_part n e x (omega arith))

-- the path of a URN, as a part of the table
pub path-part : (t : List ℕ) (a n e k : ℕ) {u : List ℕ} → u ≡ take n (drop a t) → k ≡ length (up_to 58 u) → e ≤ length u
    → (k < length u → e ≡ k + 1) → (length u ≤ k → e ≡ length u) → take (length u - e) (drop (a + e) t) ≡ path_of u
path-part t a n e k {u} g f h p q =
    let x : take (length u - e) (drop (a + e) t) ≡ drop e u =
    subst (λ (z : List ℕ). e ≤ length z → take (length z - e) (drop (a + e) t) ≡ drop e z) (sym g)
    (λ l. rw (← drop-drop e a t) (take_part n e (drop a t) l)) h in
    x ∙ by_test (ltb k (length u)) (λ b. let l = p (ltb-true k (length u) b) in rw (l, add-one, f) (past-drop 58 u))
    (λ b.
    let l = ltb-false k (length u) b in
    drop_of_length-le u {i = e} (omega (arith, q l)) ∙ sym (drop_of_length-le u {i = suc (length (up_to 58 u))} (omega (arith, f))) ∙ past-drop 58 u)

-- an element below the length is there
pub index_below : {A : Type 0} (q : A → A → Bool) (x : A) (l : List A) → index_by q x l < length l → member_by q x l ≡ true
index_below q x [] h = absurd (omega arith)
index_below q x (y ∷ l) h = by_test (q x y) (λ e. rw e) (λ e. rw e (index_below q x l (omega (arith, rw e at h))))

pub index-over : {A : Type 0} (q : A → A → Bool) (x : A) (l : List A) → length l ≤ index_by q x l → member_by q x l ≡ false
index-over q x [] h = refl
index-over q x (y ∷ l) h = by_test (q x y) (λ e. absurd (omega (arith, rw e at h))) (λ e. rw e (index-over q x l (omega (arith, rw e at h))))

-- the i-th URN: k bytes before its first colon, and the number of its category
module _ (names : List (List ℕ)) {u v : List ℕ} {k r : ℕ} (f : k ≡ length (up_to 58 u)) (g : r ≡ index_by same_name (take k u) names) (e : u ≡ v) where
  category : r ≡ index_by same_name (category_of v) names
  category = g ∙ ap (λ (z : List ℕ). index_by same_name z names) (rw f (up_to-take 58 u) ∙ ap (up_to 58) e)

  pub urn-listed : r < length names → is_listed names v ≡ true
  unfolding is_listed
  urn-listed h = index_below same_name (category_of v) names (omega (arith, category))

  pub urn-strange : length names ≤ r → is_listed names v ≡ false
  unfolding is_listed
  urn-strange h = index-over same_name (category_of v) names (omega (arith, category))

  pub urn-category : r ≡ index_by same_name (category_of v) names
  urn-category = category

pub indexed-start : (t : List ℕ) (names : List (List ℕ)) (at len category path_at path_len : List ℕ) → Indexed t names at len 0 category path_at path_len
indexed-start t names at len category path_at path_len =
    record { cat-at = λ j h. absurd (omega arith); cat-below = λ j h. absurd (omega arith); path-at = λ j h. absurd (omega arith) }

-- one more URN in the arrays
module _ (t : List ℕ) (names : List (List ℕ)) (at len : List ℕ) (i : ℕ) (category path_at path_len : List ℕ)
    (x : Indexed t names at len i category path_at path_len)
    (l₁ : i < length category) (l₂ : i < length path_at) (l₃ : i < length path_len) (c a n : ℕ) (e : c ≡ index_by same_name (category_of (stretch t at len i)) names)
    (h : c < length names) (p : take n (drop a t) ≡ path_of (stretch t at len i)) where
  below : (j : ℕ) → j < i + 1 → (j ≡ i) ⊎ (j < i)
  below j k = by_test (eqb j i) (λ b. inl (eqb-true j i b)) (λ b. let z = eqb-false j i b in inr (omega arith))

  kept : (j : ℕ) → j < i → get_or (set category i c) j 0 ≡ get_or category j 0
  kept j k = get_or-set_other category i j c 0 (λ q. omega arith)

  one : (j : ℕ) → (j ≡ i) ⊎ (j < i) → get_or (set category i c) j 0 ≡ index_by same_name (category_of (stretch t at len j)) names
  one j (inl q) = rw q (get_or-set_same category i c 0 l₁ ∙ e)
  one j (inr k) = kept j k ∙ x.cat-at j k

  two : (j : ℕ) → (j ≡ i) ⊎ (j < i) → get_or (set category i c) j 0 < length names
  two j (inl q) = let z : get_or (set category i c) j 0 ≡ c = rw q (get_or-set_same category i c 0 l₁) in omega arith
  two j (inr k) = let z = kept j k in let w = x.cat-below j k in omega arith

  three : (j : ℕ) → (j ≡ i) ⊎ (j < i) → stretch t (set path_at i a) (set path_len i n) j ≡ path_of (stretch t at len j)
  three j (inl q) = rw q (stretch-set t path_at path_len i a n l₂ l₃ ∙ p)
  three j (inr k) = stretch-keep t path_at path_len i a n j k ∙ x.path-at j k

  pub indexed-more : Indexed t names at len (i + 1) (set category i c) (set path_at i a) (set path_len i n)
  indexed-more = record { cat-at = λ j k. one j (below j k); cat-below = λ j k. two j (below j k); path-at = λ j k. three j (below j k) }

pub indexed-end : {t : List ℕ} {names : List (List ℕ)} {at len : List ℕ} (i m : ℕ) {category path_at path_len : List ℕ}
    → Indexed t names at len i category path_at path_len → i ≤ m → m ≤ i
    → Indexed t names at len m category path_at path_len
indexed-end {t} {names} {at} {len} i m {category} {path_at} {path_len} x h k =
    record { cat-at = λ j l. x.cat-at j (omega arith); cat-below = λ j l. x.cat-below j (omega arith); path-at = λ j l. x.path-at j (omega arith) }

-- a part of the table that begins where an array says
pub at-stretch : (t at len : List ℕ) (i : ℕ) {a : ℕ} → a ≡ get_or at i 0 → stretch t at len i ≡ take (get_or len i 0) (drop a t)
at-stretch t at len i e = ap (λ a. take (get_or len i 0) (drop a t)) (sym e)

-- what the loop puts into the arrays for the i-th URN
module _ (t : List ℕ) (names : List (List ℕ)) (at len : List ℕ) (i : ℕ) (category path_at path_len : List ℕ)
    (x : Indexed t names at len i category path_at path_len)
    (l₁ : i < length category) (l₂ : i < length path_at) (l₃ : i < length path_len) {u : List ℕ} {k r e w c a n : ℕ} (f : k ≡ length (up_to 58 u))
    (g : r ≡ index_by same_name (take k u) names) (d : u ≡ stretch t at len i) (h : r < length names)
    (p : (e ≤ length u) × (k < length u → e ≡ k + 1) × (length u ≤ k → e ≡ length u)) (y : c ≡ r) (q : w ≡ get_or at i 0) (z : a ≡ w + e)
    (o : n ≡ length u - e) where
  pub urn-put : Indexed t names at len (i + 1) (set category i c) (set path_at i a) (set path_len i n)
  urn-put =
      indexed-more t names at len i category path_at path_len x l₁ l₂ l₃ c a n (y ∙ urn-category names f g d) (omega arith)
      (ap₂ (λ a n. take n (drop a t)) z o ∙ path-part t w (get_or len i 0) e k (d ∙ at-stretch t at len i q) f p.0 p.1 p.2 ∙ ap path_of d)

-- from the i-th on, a list is as it was
pub record Rest (i : ℕ) (a a₀ : List ℕ) : Type 0 where
  pub same : (k : ℕ) → i ≤ k → get_or a k 0 ≡ get_or a₀ k 0

pub rest-set : {i : ℕ} {a a₀ : List ℕ} (x : ℕ) → Rest i a a₀ → Rest (i + 1) (set a i x) a₀
rest-set {i} {a} x r = record { same = λ k h. get_or-set_other a i k x 0 (λ q. omega arith) ∙ r.same k (omega arith) }

-- a URN whose place is still as it was
pub stretch-rest : (t : List ℕ) {i : ℕ} {at len at₀ len₀ : List ℕ} → Rest i at at₀ → Rest i len len₀ → stretch t at len i ≡ stretch t at₀ len₀ i
stretch-rest t {i} r s = ap₂ (λ a n. take n (drop a t)) (r.same i (omega arith)) (s.same i (omega arith))
