-- Laws of tests over a whole list, also one element further.
use Prim.Native.Nat.{ℕ, ◌+◌, ◌<◌, ◌≤◌, suc, zero}
use mathlib.Core.Path.{◌≡◌, refl, ap, sym, ◌∙◌, ap₂}
use mathlib.Core.Logic.{◌⊎◌, inl, inr}
use mathlib.Core.Bool.{Bool, ◌&&◌, and_assoc, true, false, and-false, cond, not, false≢true, and-eq-true_iff, true≢false}
use mathlib.Core.List.Memᴰ
use mathlib.Core.List.{List, [], ◌∷◌, ◌++◌, Memᴰ}
use native.Mathlib.Omega.{arith}
use lib.ListN.{length, get_or}
use Rattle.base_lists.specs.Lists.{tabulate, joined}
use Rattle.base_lists.specs.Tests.{all, any, no_two}
use Rattle.base_lists.proofs.Bools.{by_test, exchange}
use Rattle.base_lists.proofs.Tabulated.{tab-suc, tab-split, tab-same-end}

-- every element of two lists passes if all of each do
pub all_join : {A : Type 0} (p : A → Bool) (l r : List A) → all p (l ++ r) ≡ (all p l && all p r)
unfolding all
all_join p [] r = refl
all_join p (x ∷ l) r = ap (λ b. p x && b) (all_join p l r) ∙ sym (and_assoc (p x) (all p l) (all p r))

module _ {A : Type 0} (p : A → Bool) (f : ℕ → A) (i : ℕ) where
  -- every element of a table passed, and one more does
  pub all-next : {b : Bool} → all p (tabulate f i) ≡ true → b ≡ p (f i) → b ≡ true → all p (tabulate f (i + 1)) ≡ true
  unfolding all
  all-next v e t = rw (tab-suc f i, all_join p (tabulate f i) (f i ∷ []), v, sym e ∙ t)

  -- an element of a table that does not pass
  pub all-fails : (n : ℕ) {b : Bool} → i < n → b ≡ p (f i) → b ≡ false → false ≡ all p (tabulate f n)
  unfolding all
  all-fails n h e t =
      let s = tab-split f i n h in
      let z : (all p (tabulate f i) && false) ≡ false = and-false (all p (tabulate f i)) in
      sym (ap (all p) s.1 ∙ all_join p (tabulate f i) (f i ∷ s.0) ∙ ap (λ b. all p (tabulate f i) && (b && all p s.0)) (sym e ∙ t) ∙ z)

  -- every element of a table passed up to its end
  pub all-ends : (n : ℕ) → all p (tabulate f i) ≡ true → i ≤ n → n ≤ i → true ≡ all p (tabulate f n)
  all-ends n v h k = sym (ap (all p) (sym (tab-same-end f i n h k)) ∙ v)

-- every element passes where there is none
pub all_start : {A : Type 0} (p : A → Bool) (f : ℕ → A) → all p (tabulate f 0) ≡ true
unfolding all tabulate
all_start p f = refl

-- some element of two lists passes if one of either does
pub any-join : {A : Type 0} (p : A → Bool) (l r : List A) → any p (l ++ r) ≡ cond (any p l) true (any p r)
unfolding any
any-join p [] r = refl
any-join p (x ∷ l) r = by_test (p x) (λ e. simp e) (λ e. simp e (any-join p l r))

module _ {A : Type 0} (p : A → Bool) (f : ℕ → A) (i : ℕ) where
  -- no element of a table passed, nor does the next
  pub any_next : any p (tabulate f i) ≡ false → p (f i) ≡ false → any p (tabulate f (i + 1)) ≡ false
  unfolding any
  any_next v e = rw (tab-suc f i, any-join p (tabulate f i) (f i ∷ []), v, e)

  -- an element of a table that passes
  pub any_found : (n : ℕ) → any p (tabulate f i) ≡ false → i < n → p (f i) ≡ true → true ≡ any p (tabulate f n)
  unfolding any
  any_found n v h e =
      let s = tab-split f i n h in
      sym (ap (any p) s.1 ∙ rw (any-join p (tabulate f i) (f i ∷ s.0), v, e))

  -- no element of a table passed up to its end
  pub any-ends : (n : ℕ) → any p (tabulate f i) ≡ false → i ≤ n → n ≤ i → false ≡ any p (tabulate f n)
  any-ends n v h k = sym (ap (any p) (sym (tab-same-end f i n h k)) ∙ v)

-- no element passes where there is none
pub any-start : {A : Type 0} (p : A → Bool) (f : ℕ → A) → any p (tabulate f 0) ≡ false
unfolding any tabulate
any-start p f = refl

-- an element that clashes with an earlier one
pub two-clash : {A : Type 0} (q : A → A → Bool) (l : List A) (x : A) (r : List A) → any (λ y. q y x) l ≡ true → no_two q (l ++ x ∷ r) ≡ false
unfolding any no_two
two-clash q [] x r e = absurd (false≢true e)
two-clash q (y ∷ l) x r e = by_test (q y x)
    (λ t. let z : any (q y) (l ++ x ∷ r) ≡ true = any-join (q y) l (x ∷ r) ∙ rw t (both (any (q y) l)) in rw z)
    (λ t. rw (two-clash q l x r (rw t at e)) (and-false (not (any (q y) (l ++ x ∷ r)))))
  where
    both : (b : Bool) → cond b true true ≡ true
    both true = refl
    both false = refl

-- one more element that clashes with none
pub two-more : {A : Type 0} (q : A → A → Bool) (l : List A) (x : A) → no_two q l ≡ true → any (λ y. q y x) l ≡ false → no_two q (l ++ x ∷ []) ≡ true
unfolding any no_two
two-more q [] x v e = refl
two-more q (y ∷ l) x v e =
    let a = (and-eq-true_iff (not (any (q y) l)) (no_two q l)).0 v in
    by_test (q y x)
    (λ t. absurd (true≢false (rw t at e)))
    (λ t.
    let f : any (λ y. q y x) l ≡ false = rw t at e in
    let g : any (q y) (l ++ x ∷ []) ≡ any (q y) l = any-join (q y) l (x ∷ []) ∙ rw t (keep (any (q y) l)) in
    rw (g, two-more q l x a.1 f) (ap (λ b. b && true) a.0))
  where
    keep : (b : Bool) → cond b true false ≡ b
    keep true = refl
    keep false = refl

module _ {A : Type 0} (q : A → A → Bool) (f : ℕ → A) (i n : ℕ) where
  -- an element of a table that clashes with an earlier one
  pub two-fails : i < n → any (λ y. q y (f i)) (tabulate f i) ≡ true → false ≡ no_two q (tabulate f n)
  two-fails h e = let s = tab-split f i n h in sym (ap (no_two q) s.1 ∙ two-clash q (tabulate f i) (f i) s.0 e)

  -- one more element of a table that clashes with none
  pub two-next : no_two q (tabulate f i) ≡ true → any (λ y. q y (f i)) (tabulate f i) ≡ false → no_two q (tabulate f (i + 1)) ≡ true
  two-next v e = ap (no_two q) (tab-suc f i) ∙ two-more q (tabulate f i) (f i) v e

  -- no elements of a table clash up to its end
  pub two_ends : no_two q (tabulate f i) ≡ true → i ≤ n → n ≤ i → true ≡ no_two q (tabulate f n)
  two_ends v h k = sym (ap (no_two q) (sym (tab-same-end f i n h k)) ∙ v)

-- none clash where there is none
pub two-start : {A : Type 0} (q : A → A → Bool) (f : ℕ → A) → no_two q (tabulate f 0) ≡ true
unfolding no_two tabulate
two-start q f = refl

-- every element of every list passes if all of the lists in a row do
pub all-joined : {A : Type 0} (p : A → Bool) (ss : List (List A)) → all (all p) ss ≡ all p (joined ss)
unfolding all joined
all-joined p [] = refl
all-joined p (sig ∷ ss) = ap (λ b. all p sig && b) (all-joined p ss) ∙ sym (all_join p sig (joined ss))

-- some element of some list passes if one of the lists in a row does
pub any-joined : {A : Type 0} (p : A → Bool) (ss : List (List A)) → any (any p) ss ≡ any p (joined ss)
unfolding any joined
any-joined p [] = refl
any-joined p (sig ∷ ss) = by_test (any p sig)
    (λ e. rw e (sym (any-join p sig (joined ss) ∙ rw e)))
    (λ e. rw e (any-joined p ss ∙ sym (any-join p sig (joined ss) ∙ rw e)))

-- tables whose values test alike: every value passes
pub all_alike : {A B : Type 0} (p : A → Bool) (q : B → Bool) (f : ℕ → A) (g : ℕ → B) (n : ℕ) → ((i : ℕ) → i < n → p (f i) ≡ q (g i))
    → all p (tabulate f n) ≡ all q (tabulate g n)
unfolding all tabulate
all_alike p q f g zero h = refl
all_alike p q f g (suc n) h =
    all_join p (tabulate f n) (f n ∷ []) ∙ ap₂ (λ a b. a && (b && true)) (all_alike p q f g n (λ i l. h i (omega arith)))
    (h n (omega arith)) ∙ sym (all_join q (tabulate g n) (g n ∷ []))

-- tables whose values test alike: some value passes
pub any-alike : {A B : Type 0} (p : A → Bool) (q : B → Bool) (f : ℕ → A) (g : ℕ → B) (n : ℕ) → ((i : ℕ) → i < n → p (f i) ≡ q (g i))
    → any p (tabulate f n) ≡ any q (tabulate g n)
unfolding any tabulate
any-alike p q f g zero h = refl
any-alike p q f g (suc n) h =
    any-join p (tabulate f n) (f n ∷ []) ∙ ap₂ (λ a b. cond a true (cond b true false)) (any-alike p q f g n (λ i l. h i (omega arith)))
    (h n (omega arith)) ∙ sym (any-join q (tabulate g n) (g n ∷ []))

-- no elements clash, one element more at the end
pub two-snoc : {A : Type 0} (q : A → A → Bool) (l : List A) (x : A) → no_two q (l ++ x ∷ []) ≡ (no_two q l && not (any (λ y. q y x) l))
unfolding no_two any
two-snoc q [] x = refl
two-snoc q (y ∷ l) x =
    ap₂ (λ a b. not a && b) (any-join (q y) l (x ∷ [])) (two-snoc q l x) ∙ go (any (q y) l) (q y x) (no_two q l) (any (λ y. q y x) l)
  where
    go : (a b c d : Bool) → (not (cond a true (cond b true false)) && (c && not d)) ≡ ((not a && c) && not (cond b true d))
    go true b c d = refl
    go false true c d = sym (and-false c)
    go false false c d = refl

-- tables whose values clash alike: none clash
pub two-alike : {A B : Type 0} (p : A → A → Bool) (q : B → B → Bool) (f : ℕ → A) (g : ℕ → B) (n : ℕ)
    → ((i j : ℕ) → i < j → j < n → p (f i) (f j) ≡ q (g i) (g j)) → no_two p (tabulate f n) ≡ no_two q (tabulate g n)
unfolding no_two tabulate
two-alike p q f g zero h = refl
two-alike p q f g (suc n) h =
    two-snoc p (tabulate f n) (f n)
    ∙ ap₂ (λ a b. a && not b) (two-alike p q f g n (λ i j k l. h i j k (omega arith)))
    (any-alike (λ y. p y (f n)) (λ y. q y (g n)) f g n (λ i l. h i n l (omega arith)))
    ∙ sym (two-snoc q (tabulate g n) (g n))

-- where not every element passes, one does not
pub all-not : {A : Type 0} (p : A → Bool) (xs : List A) (d : A) → all p xs ≡ false → (i : ℕ) × (i < length xs) × (p (get_or xs i d) ≡ false)
unfolding all
all-not p [] d e = absurd (true≢false e)
all-not {A} p (x ∷ xs) d e = by_test (p x) (λ h. go h (λ f. all-not p xs d f)) (λ h. (0, omega arith, h))
  where
    go : p x ≡ true → (all p xs ≡ false → (i : ℕ) × (i < length xs) × (p (get_or xs i d) ≡ false)) → (i : ℕ) × (i < length (x ∷ xs))
        × (p (get_or (x ∷ xs) i d) ≡ false)
    go h ih = let w = ih (rw h at e) in (suc w.0, omega (arith, w.1), w.2)

-- where some element passes, it stands at a place
pub any-yes : {A : Type 0} (p : A → Bool) (xs : List A) (d : A) → any p xs ≡ true → (j : ℕ) × (j < length xs) × (p (get_or xs j d) ≡ true)
unfolding any
any-yes p [] d e = absurd (false≢true e)
any-yes {A} p (x ∷ xs) d e = by_test (p x) (λ h. (0, omega arith, h)) (λ h. let w = any-yes p xs d (rw h at e) in (suc w.0, omega (arith, w.1), w.2))

-- where elements clash, two of them do
pub two-not : {A : Type 0} (q : A → A → Bool) (xs : List A) (d : A) → no_two q xs ≡ false
    → (i : ℕ) × (j : ℕ) × (i < j) × (j < length xs) × (q (get_or xs i d) (get_or xs j d) ≡ true)
unfolding no_two
two-not q [] d e = absurd (true≢false e)
two-not {A} q (x ∷ xs) d e =
    by_test (any (q x) xs)
    (λ h. let w = any-yes (q x) xs d h in (0, suc w.0, omega arith, omega (arith, w.1), w.2))
    (λ h. let w = two-not q xs d (rw h at e) in (suc w.0, suc w.1, omega (arith, w.2), omega (arith, w.3), w.4))

-- where no element passes at any place, none does
pub not-any : {A : Type 0} (p : A → Bool) (xs : List A) (d : A) → ((j : ℕ) → j < length xs → p (get_or xs j d) ≡ false) → any p xs ≡ false
unfolding any
not-any p [] d h = refl
not-any p (x ∷ xs) d h = rw (h 0 (omega arith)) (not-any p xs d (λ j i. h (suc j) (omega arith)))

-- where no two elements clash, none clash
pub no-two-of : {A : Type 0} (q : A → A → Bool) (xs : List A) (d : A)
    → ((i j : ℕ) → i < j → j < length xs → q (get_or xs i d) (get_or xs j d) ≡ false) → no_two q xs ≡ true
unfolding no_two
no-two-of q [] d h = refl
no-two-of q (x ∷ xs) d h =
    rw (not-any (q x) xs d (λ j i. h 0 (suc j) (omega arith) (omega arith))) (no-two-of q xs d (λ i j a b. h (suc i) (suc j) (omega arith) (omega arith)))

-- a member of a list whose every element passes
pub all-mem : {A : Type 0} (p : A → Bool) (xs : List A) (x : A) → all p xs ≡ true → Memᴰ x xs → p x ≡ true
unfolding all
all-mem p [] x e m = absurd (Memᴰ.not-nil m)
all-mem p (y ∷ xs) x e m = go (Memᴰ.cases_cons m) (λ k. all-mem p xs x ((and-eq-true_iff (p y) (all p xs)).0 e).1 k)
  where
    go : (x ≡ y) ⊎ Memᴰ x xs → (Memᴰ x xs → p x ≡ true) → p x ≡ true
    go (inl i) ih = ap p i ∙ ((and-eq-true_iff (p y) (all p xs)).0 e).0
    go (inr k) ih = ih k

-- every element passes if each member does
pub all-by : {A : Type 0} (p : A → Bool) (xs : List A) → ((x : A) → Memᴰ x xs → p x ≡ true) → all p xs ≡ true
unfolding all
all-by p [] h = refl
all-by p (x ∷ xs) h = ap₂ ◌&&◌ (h x (Memᴰ.head refl)) (all-by p xs (λ y m. h y (Memᴰ.tail m)))

-- two lists in a row whose every element passes
pub all_split : {A : Type 0} (p : A → Bool) (a b : List A) → all p (a ++ b) ≡ true → (all p a ≡ true) × (all p b ≡ true)
unfolding all
all_split p [] b e = (refl, e)
all_split p (x ∷ a) b e =
    let c = (and-eq-true_iff (p x) (all p (a ++ b))).0 e in
    let d = all_split p a b c.1 in
    (ap₂ ◌&&◌ c.0 d.0, d.1)

-- two lists whose every element passes, in a row
pub all_both : {A : Type 0} (p : A → Bool) (a b : List A) → all p a ≡ true → all p b ≡ true → all p (a ++ b) ≡ true
unfolding all
all_both p [] b e f = f
all_both p (x ∷ a) b e f = let c = (and-eq-true_iff (p x) (all p a)).0 e in ap₂ ◌&&◌ c.0 (all_both p a b c.1 f)

-- a test that follows from one that every element passes
pub all-imp : {A : Type 0} (p q : A → Bool) → ((x : A) → p x ≡ true → q x ≡ true) → (l : List A) → all p l ≡ true → all q l ≡ true
unfolding all
all-imp p q h [] e = refl
all-imp p q h (x ∷ l) e =
    let b = (and-eq-true_iff (p x) (all p l)).0 e in
    (and-eq-true_iff (q x) (all q l)).1 (h x b.0, all-imp p q h l b.1)

-- a test that is two tests
pub all_two : {A : Type 0} (p q r : A → Bool) → ((x : A) → r x ≡ (p x && q x)) → (l : List A) → all r l ≡ (all p l && all q l)
unfolding all
all_two p q r e [] = refl
all_two p q r e (x ∷ l) = ap₂ ◌&&◌ (e x) (all_two p q r e l) ∙ exchange (p x) (q x) (all p l) (all q l)
