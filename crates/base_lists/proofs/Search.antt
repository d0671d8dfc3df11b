-- Laws of the search for the first number that passes a test, of the highest value, and of counting the numbers that pass.
use Prim.Native.Nat.{ℕ, ◌+◌, ◌≤◌, ◌<◌, zero, suc, max, ◌-◌}
use mathlib.Core.Path.{◌≡◌, refl, ap, ◌∙◌, sym}
use mathlib.Core.Logic.{◌⊎◌, inl, inr}
use mathlib.Core.Bool.{Bool, true, false, cond, true≢false}
use native.Mathlib.Decide.{ℕ_discrete, dec_le, dec_lt}
use native.Mathlib.Numerals.{add-one}
use native.Mathlib.Omega.{arith}
use Rattle.base_lists.specs.Search.{seek, highest, count}

-- what a search from i among n numbers finds
pub record Sought (f : ℕ → Bool) (i n s : ℕ) : Type 0 where
  pub from : i ≤ s
  pub within : s ≤ i + n
  pub passes : s < i + n → f s ≡ true
  pub first : (j : ℕ) → i ≤ j → j < s → f j ≡ false

-- what the search gives is what it should find
pub seek-sought : (f : ℕ → Bool) (i n : ℕ) → Sought f i n (seek f i n)
unfolding seek
seek-sought f i zero = record { from = omega arith; within = omega arith; passes = λ h. absurd (omega arith); first = λ j a b. absurd (omega arith) }
seek-sought f i (suc n) = go (f i) refl (seek-sought f (i + 1) n)
  where
    go : (b : Bool) → f i ≡ b → Sought f (i + 1) n (seek f (i + 1) n) → Sought f i (suc n) (cond (f i) i (seek f (i + 1) n))
    go true e r = rw e (record { from = omega arith; within = omega arith; passes = λ h. e; first = λ j a b. absurd (omega arith) })
    go false e r =
        rw e
        (record {
          from = omega (arith, r.from);
          within = omega (arith, r.within);
          passes = λ h. r.passes (omega arith);
          first = λ j a b. at j a b (ℕ_discrete j i);
        })
      where
        at : (j : ℕ) → i ≤ j → j < seek f (i + 1) n → Dec (j ≡ i) → f j ≡ false
        at j a b (yes q) = ap f q ∙ e
        at j a b (no q) = r.first j (omega arith) b

-- nothing before what the search gives passes
pub seek-before : (f : ℕ → Bool) (n j : ℕ) → f j ≡ true → seek f 0 n ≤ j
seek-before f n j h = go (dec_le (seek f 0 n) j)
  where
    go : Dec (seek f 0 n ≤ j) → seek f 0 n ≤ j
    go (yes a) = a
    go (no a) = absurd (true≢false (sym h ∙ (seek-sought f 0 n).first j (omega arith) (omega arith)))

-- a search finds something if something passes
pub seek_found : (f : ℕ → Bool) (n j : ℕ) → j < n → f j ≡ true → (seek f 0 n < n) × (f (seek f 0 n) ≡ true)
seek_found f n j h e =
    let a = seek-before f n j e in
    (omega arith, (seek-sought f 0 n).passes (omega arith))

-- searches by tests that are equal
pub seek-same : (f g : ℕ → Bool) (i n : ℕ) → ((j : ℕ) → i ≤ j → j < i + n → f j ≡ g j) → seek f i n ≡ seek g i n
unfolding seek
seek-same f g i zero h = refl
seek-same f g i (suc n) h =
    ap (λ b. cond b i (seek f (i + 1) n)) (h i (omega arith) (omega arith))
    ∙ ap (λ s. cond (g i) i s) (seek-same f g (i + 1) n (λ j a b. h j (omega arith) (omega arith)))

-- no value is above the highest
pub highest-above : (f : ℕ → ℕ) (n j : ℕ) → j < n → f j ≤ highest f n
unfolding highest
highest-above f zero j h = absurd (omega arith)
highest-above f (suc n) j h = go (ℕ_discrete j n) (λ a. highest-above f n j a)
  where
    go : Dec (j ≡ n) → (j < n → f j ≤ highest f n) → f j ≤ max (highest f n) (f n)
    go (yes e) ih = omega (arith, ap f e)
    go (no e) ih = omega (arith, ih (omega arith))

-- and one value is the highest
pub record Highest (f : ℕ → ℕ) (n : ℕ) : Type 0 where
  pub place : ℕ
  pub below : place < n
  pub value : f place ≡ highest f n

-- the highest is one of the values
pub highest-reached : (f : ℕ → ℕ) (n : ℕ) → 0 < n → Highest f n
unfolding highest
highest-reached f zero h = absurd (omega arith)
highest-reached f (suc zero) h = record { place = 0; below = omega arith; value = omega arith }
highest-reached f (suc (suc n)) h = go (dec_le (highest f (suc n)) (f (suc n))) (highest-reached f (suc n) (omega arith))
  where
    go : Dec (highest f (suc n) ≤ f (suc n)) → Highest f (suc n) → Highest f (suc (suc n))
    go (yes a) r = record { place = suc n; below = omega arith; value = omega arith }
    go (no a) r = record { place = r.place; below = omega (arith, r.below); value = r.value ∙ omega arith }

-- the highest of no values
pub highest-none : (f : ℕ → ℕ) → 0 ≡ highest f 0
unfolding highest
highest-none f = refl

-- the highest of one value more
pub highest-more : (f : ℕ → ℕ) (i most x r : ℕ) → most ≡ highest f i → x ≡ f i → r ≡ max most x → r ≡ highest f (i + 1)
unfolding highest
highest-more f i most x r a b c = c ∙ rw (a, b, add-one)

-- a search that has come to j, and goes on
pub seek-more : (f : ℕ → Bool) (n j : ℕ) → j < n → f j ≡ false → seek f 0 n ≡ seek f j (n - j) → seek f 0 n ≡ seek f (j + 1) (n - (j + 1))
unfolding seek
seek-more f n j h e a =
    let i : n - j ≡ suc (n - (j + 1)) = omega arith in
    a ∙ ap (seek f j) i ∙ rw e

-- a search that has come to j, which passes
pub seek_hit : (f : ℕ → Bool) (n j : ℕ) → j < n → f j ≡ true → seek f 0 n ≡ seek f j (n - j) → j ≡ seek f 0 n
unfolding seek
seek_hit f n j h e a =
    let i : n - j ≡ suc (n - (j + 1)) = omega arith in
    let q : seek f j (suc (n - (j + 1))) ≡ j = rw e in
    sym (a ∙ ap (seek f j) i ∙ q)

-- a search that has come to the end
pub seek-end : (f : ℕ → Bool) (n j : ℕ) → j ≤ n → n ≤ j → seek f 0 n ≡ seek f j (n - j) → n ≡ seek f 0 n
unfolding seek
seek-end f n j h k a =
    let i : n - j ≡ 0 = omega arith in
    let q : n ≡ j = omega arith in
    q ∙ sym (a ∙ ap (seek f j) i)

-- a search that begins
pub seek-start : (f : ℕ → Bool) (n : ℕ) → seek f 0 n ≡ seek f 0 (n - 0)
seek-start f n = let i : n ≡ n - 0 = omega arith in ap (seek f 0) i

-- no more numbers pass than there are
pub count_fits : (f : ℕ → Bool) (n : ℕ) → count f n ≤ n
unfolding count
count_fits f zero = omega arith
count_fits f (suc n) = go (f n) refl (count_fits f n)
  where
    go : (b : Bool) → f n ≡ b → count f n ≤ n → cond (f n) (suc (count f n)) (count f n) ≤ suc n
    go true e ih = rw e (omega arith)
    go false e ih = rw e (omega arith)

-- one more number that passes
pub count_yes : (f : ℕ → Bool) (n : ℕ) → f n ≡ true → count f (suc n) ≡ suc (count f n)
unfolding count
count_yes f n e = rw e

-- one more number that does not pass
pub count_no : (f : ℕ → Bool) (n : ℕ) → f n ≡ false → count f (suc n) ≡ count f n
unfolding count
count_no f n e = rw e

-- of more numbers no fewer pass
pub count-more : (f : ℕ → Bool) (a b : ℕ) → a ≤ b → count f a ≤ count f b
count-more f a zero h = let e : a ≡ 0 = omega arith in rw e (omega arith)
count-more f a (suc b) h = go (ℕ_discrete a (suc b)) (λ i. count-more f a b i) (f b) refl
  where
    go : Dec (a ≡ suc b) → (a ≤ b → count f a ≤ count f b) → (t : Bool) → f b ≡ t → count f a ≤ count f (suc b)
    go (yes e) ih t q = rw e (omega arith)
    go (no e) ih true q = rw (count_yes f b q) (omega (arith, ih (omega arith)))
    go (no e) ih false q = rw (count_no f b q) (ih (omega arith))

-- a number that passes is counted
pub count_past : (f : ℕ → Bool) (a b : ℕ) → a < b → f a ≡ true → count f a < count f b
count_past f a b h e = omega (arith, count_yes f a e, count-more f (suc a) b h)

-- the number that passes with c others before it
pub record Counted (f : ℕ → Bool) (n c : ℕ) : Type 0 where
  pub place : ℕ
  pub below : place < n
  pub passes : f place ≡ true
  pub before : count f place ≡ c

-- what is counted stands somewhere
pub count-place : (f : ℕ → Bool) (n c : ℕ) → c < count f n → Counted f n c
unfolding count
count-place f zero c h = absurd (omega arith)
count-place f (suc n) c h = go (f n) refl (λ a. count-place f n c a) (dec_lt c (count f n))
  where
    more : Counted f n c → Counted f (suc n) c
    more r = record { place = r.place; below = omega (arith, r.below); passes = r.passes; before = r.before }

    go : (b : Bool) → f n ≡ b → (c < count f n → Counted f n c) → Dec (c < count f n) → Counted f (suc n) c
    go b e ih (yes a) = more (ih a)
    go true e ih (no a) = record { place = n; below = omega arith; passes = e; before = omega (arith, count_yes f n e) }
    go false e ih (no a) = absurd (omega (arith, count_no f n e))

-- where all that pass one test pass another
pub count-grows : (f g : ℕ → Bool) (n : ℕ) → ((j : ℕ) → j < n → f j ≡ true → g j ≡ true)
    → (count f n < count g n) ⊎ ((count f n ≤ count g n) × ((j : ℕ) → j < n → g j ≡ true → f j ≡ true))
count-grows f g zero h = inr (omega (arith, count_fits f 0), λ j a. absurd (omega arith))
count-grows f g (suc n) h = go (f n) refl (g n) refl (count-grows f g n (λ j a. h j (omega arith)))
  where
    back : ((j : ℕ) → j < n → g j ≡ true → f j ≡ true) → (g n ≡ true → f n ≡ true) → (j : ℕ) → j < suc n → g j ≡ true → f j ≡ true
    back r s j a = at (ℕ_discrete j n)
      where
        at : Dec (j ≡ n) → g j ≡ true → f j ≡ true
        at (yes e) = rw e s
        at (no e) = r j (omega arith)

    go : (b : Bool) → f n ≡ b → (d : Bool) → g n ≡ d → (count f n < count g n) ⊎ ((count f n ≤ count g n) × ((j : ℕ) → j < n → g j ≡ true → f j ≡ true))
        → (count f (suc n) < count g (suc n)) ⊎ ((count f (suc n) ≤ count g (suc n)) × ((j : ℕ) → j < suc n → g j ≡ true → f j ≡ true))
    go true e true i (inl r) = inl (omega (arith, count_yes f n e, count_yes g n i))
    go true e true i (inr r) = inr (omega (arith, count_yes f n e, count_yes g n i), back r.1 (λ k. e))
    go true e false i r = absurd (true≢false (sym (h n (omega arith) e) ∙ i))
    go false e true i (inl r) = inl (omega (arith, count_no f n e, count_yes g n i))
    go false e true i (inr r) = inl (omega (arith, count_no f n e, count_yes g n i))
    go false e false i (inl r) = inl (omega (arith, count_no f n e, count_no g n i))
    go false e false i (inr r) = inr (omega (arith, count_no f n e, count_no g n i), back r.1 (λ k. absurd (true≢false (sym k ∙ i))))
