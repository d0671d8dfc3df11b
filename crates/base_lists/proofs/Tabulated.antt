-- Laws of tables of values: f 0, f 1, .., also one value further.
use Prim.Native.Nat.{ℕ, zero, suc, ◌<◌, ◌+◌, ◌≤◌}
use mathlib.Core.Path.{◌≡◌, refl, sym, ap, ◌∙◌, ap₂}
use mathlib.Core.Bool.{Bool, true, false}
use mathlib.Core.List.{[], ◌∷◌, ◌++◌, List, append_assoc, append-nil, map, map-append}
use native.Mathlib.Decide.{ℕ_discrete}
use native.Mathlib.Numerals.{add-one}
use native.Mathlib.Omega.{arith}
use lib.ListN.{length, length-append, get_or, get_or-append}
use lib.Dec.{ltb}
use lib.Seq.{get_or_at, ext_get_or}
use borrow.Author.Tests.{ltb-true, ltb-false}
use Rattle.base_lists.specs.Lists.{tabulate, member_by, index_by}
use Rattle.base_lists.proofs.Bools.{by_test}
use Rattle.base_lists.proofs.Lists.{index-join, member-join}

-- a table of n values has length n
pub tabulate-length : {A : Type 0} (f : ℕ → A) (n : ℕ) → length (tabulate f n) ≡ n
unfolding tabulate
tabulate-length f zero = refl
tabulate-length f (suc n) = omega (arith, length-append (tabulate f n) (f n ∷ []), tabulate-length f n)

-- value k of a table is f k
pub tabulate-at : {A : Type 0} (f : ℕ → A) (n k : ℕ) (d : A) → k < n → get_or (tabulate f n) k d ≡ f k
unfolding tabulate
tabulate-at f zero k d h = absurd (omega arith)
tabulate-at f (suc n) k d h = go (ℕ_discrete k n) (λ i. tabulate-at f n k d i)
  where
    go : Dec (k ≡ n) → (k < n → get_or (tabulate f n) k d ≡ f k) → get_or (tabulate f n ++ f n ∷ []) k d ≡ f k
    go (yes e) ih = get_or_at (tabulate f n) (f n) [] d k (tabulate-length f n ∙ sym e) ∙ ap f (sym e)
    go (no e) ih = get_or-append (tabulate f n) (f n ∷ []) d k (omega (arith, tabulate-length f n)) ∙ ih (omega arith)

-- tables of equal values are equal
pub tabulate-same : {A : Type 0} (f g : ℕ → A) (n : ℕ) → ((k : ℕ) → k < n → f k ≡ g k) → tabulate f n ≡ tabulate g n
unfolding tabulate
tabulate-same f g zero h = refl
tabulate-same f g (suc n) h = ap₂ (λ l x. l ++ x ∷ []) (tabulate-same f g n (λ k i. h k (omega arith))) (h n (omega arith))

-- one value more stands at the end
pub tab-suc : {A : Type 0} (f : ℕ → A) (i : ℕ) → tabulate f (i + 1) ≡ tabulate f i ++ f i ∷ []
unfolding tabulate
tab-suc f i = rw add-one

-- a table up to a value, the value, and the rest
pub tab-split : {A : Type 0} (f : ℕ → A) (i n : ℕ) → i < n → (r : List A) × (tabulate f n ≡ tabulate f i ++ f i ∷ r)
unfolding tabulate
tab-split f i zero h = absurd (omega arith)
tab-split f i (suc n) h =
    by_test (ltb i n)
    (λ e.
    let r = tab-split f i n (ltb-true i n e) in
    (r.0 ++ f n ∷ [], ap (λ l. l ++ f n ∷ []) r.1 ∙ append_assoc (tabulate f i) (f i ∷ r.0) (f n ∷ [])))
    (λ e. let k : i ≡ n = omega (arith, ltb-false i n e) in ([], rw k))

-- tables of equally many values are equal
pub tab-same-end : {A : Type 0} (f : ℕ → A) (i n : ℕ) → i ≤ n → n ≤ i → tabulate f i ≡ tabulate f n
tab-same-end f i n h k = ap (tabulate f) (omega arith)

module _ {A : Type 0} (q : A → A → Bool) (x : A) (f : ℕ → A) (i n : ℕ) (v : member_by q x (tabulate f i) ≡ false) where
  -- a search through a table that meets what it looks for
  pub index-hit : {b : Bool} → i < n → b ≡ q x (f i) → b ≡ true → i ≡ index_by q x (tabulate f n)
  index-hit h e t =
      let s = tab-split f i n h in
      let z : index_by q x (f i ∷ s.0) ≡ 0 = simp (sym e ∙ t) in
      let k = index-join q x (tabulate f i) (f i ∷ s.0) v in
      let l = tabulate-length f i in
      let m : i ≡ length (tabulate f i) + index_by q x (f i ∷ s.0) = omega (arith, z, l) in
      m ∙ sym k ∙ ap (index_by q x) (sym s.1)

  -- a search through a table that goes on
  pub index-next : {b : Bool} → b ≡ q x (f i) → b ≡ false → member_by q x (tabulate f (i + 1)) ≡ false
  index-next e t = rw (tab-suc f i, member-join q x (tabulate f i) (f i ∷ []), v, sym e ∙ t)

  -- a search through a table that comes to its end
  pub index-none : i ≤ n → n ≤ i → i ≡ index_by q x (tabulate f n)
  index-none h k =
      let j = index-join q x (tabulate f i) [] v in
      let m : i ≡ length (tabulate f i) + 0 = omega (arith, tabulate-length f i) in
      m ∙ sym j ∙ ap (index_by q x) (append-nil (tabulate f i) ∙ tab-same-end f i n h k)

-- nothing is found before a table begins
pub index-start : {A : Type 0} (q : A → A → Bool) (x : A) (f : ℕ → A) → member_by q x (tabulate f 0) ≡ false
unfolding tabulate
index-start q x f = refl

-- what a function gives for a table is a table
pub map-tab : {A B : Type 0} (g : A → B) (f : ℕ → A) (n : ℕ) → map g (tabulate f n) ≡ tabulate (λ i. g (f i)) n
unfolding tabulate
map-tab g f zero = refl
map-tab g f (suc n) = map-append g (tabulate f n) (f n ∷ []) ∙ ap (λ l. l ++ g (f n) ∷ []) (map-tab g f n)

-- a table is its first value and the table of the others
pub tab-shift : {A : Type 0} (f : ℕ → A) (n : ℕ) → tabulate f (suc n) ≡ f 0 ∷ tabulate (λ i. f (suc i)) n
unfolding tabulate
tab-shift f zero = refl
tab-shift f (suc n) = ap (λ l. l ++ f (suc n) ∷ []) (tab-shift f n)

-- a list is the table of its elements
pub tab-list : {A : Type 0} (l : List A) (d : A) → tabulate (λ i. get_or l i d) (length l) ≡ l
unfolding tabulate
tab-list [] d = refl
tab-list (x ∷ l) d = tab-shift (λ i. get_or (x ∷ l) i d) (length l) ∙ ap (λ z. x ∷ z) (tab-list l d)

-- a list is the table of values that are its elements
pub tabulate-entries : {A : Type 0} (d : A) (l : List A) (f : ℕ → A) (n : ℕ) → length l ≡ n → ((k : ℕ) → k < n → f k ≡ get_or l k d) → tabulate f n ≡ l
tabulate-entries d l f n e h =
    ext_get_or d (tabulate f n) l (tabulate-length f n ∙ sym e)
    (λ i b. tabulate-at f n i d (rw (tabulate-length f n) at b) ∙ h i (rw (tabulate-length f n) at b))
