-- Laws of lists: tests of equality, members, adding, and places in lists without repeats.
use Prim.Native.Nat.{ℕ, ◌<◌, zero, suc, ◌≤◌, ◌+◌}
use mathlib.Core.Path.{◌≡◌, refl, sym, ap, ◌∙◌}
use mathlib.Core.Logic.{◌⊎◌, inl, inr}
use mathlib.Core.Bool.{Bool, true, false≢true, and-eq-true_iff, ◌||◌, or-true, false, true≢false, cond}
use mathlib.Core.List.Memᴰ
use mathlib.Core.List.{List, [], ◌∷◌, ◌++◌, append-nil, append_assoc, Memᴰ, map}
use native.Mathlib.Omega.{arith}
use lib.ListN.{length, get_or, get_or-append, set, take, replicate}
use lib.Dec.{eqb}
use borrow.Author.Tests.{eqb-true, eq-eqb}
use Rattle.base_lists.specs.Lists.{same_list, member_by, add_by, index_by, Distinct}
use Rattle.base_lists.proofs.Bools.{by_test}

-- a test that tells equality
pub record Exact {A : Type 0} (f : A → A → Bool) : Type 0 where
  pub to : (x y : A) → f x y ≡ true → x ≡ y
  pub self : (x : A) → f x x ≡ true

-- the test of numbers tells equality
pub eqb-exact : Exact eqb
eqb-exact = record { to = eqb-true; self = λ x. eq-eqb x x refl }

module _ {A : Type 0} (f : A → A → Bool) (ex : Exact f) where
  -- two lists that test the same are equal
  pub list-to : (x y : List A) → same_list f x y ≡ true → x ≡ y
  list-to [] [] e = refl
  list-to [] (b ∷ y) e = absurd (false≢true e)
  list-to (a ∷ x) [] e = absurd (false≢true e)
  list-to (a ∷ x) (b ∷ y) e =
      let h = (and-eq-true_iff (f a b) (same_list f x y)).0 e in
      rw (ex.to a b h.0, list-to x y h.1)

  -- a list tests the same as itself
  pub list-self : (x : List A) → same_list f x x ≡ true
  list-self [] = refl
  list-self (a ∷ x) = rw (ex.self a, list-self x)

-- the test of lists tells equality if that of their elements does
pub list-exact : {A : Type 0} {f : A → A → Bool} → Exact f → Exact (same_list f)
list-exact {f} ex = record { to = list-to f ex; self = list-self f ex }

-- the list goes on
pub record Extends {A : Type 0} (l k : List A) : Type 0 where
  pub more : List A
  pub joined : l ++ more ≡ k

module _ {A : Type 0} where
  -- a list goes on as itself
  pub extends-self : (l : List A) → Extends l l
  extends-self l = record { more = []; joined = append-nil l }

  -- a list that goes on to one that goes on
  pub extends-trans : {l k m : List A} → Extends l k → Extends k m → Extends l m
  extends-trans {l} a b = record {
    more = a.more ++ b.more;
    joined = sym (append_assoc l a.more b.more) ∙ ap (λ z. z ++ b.more) a.joined ∙ b.joined;
  }

  -- where a list goes on, what it has at a place stays
  pub at-extends : {l k : List A} (d : A) → Extends l k → (j : ℕ) → j < length l → get_or k j d ≡ get_or l j d
  at-extends {l} d a j h = rw (← a.joined) (get_or-append l a.more d j h)

  -- what stands at a place is a member
  pub mem-at : (l : List A) (k : ℕ) (d : A) → k < length l → Memᴰ (get_or l k d) l
  mem-at [] k d h = absurd (omega arith)
  mem-at (x ∷ l) zero d h = Memᴰ.head refl
  mem-at (x ∷ l) (suc k) d h = Memᴰ.tail (mem-at l k d (omega arith))

-- an entry of a list after a store is the stored value, at its place, or the old entry
pub get_d-set-cases : {A : Type 0} (l : List A) (c k : ℕ) (a d : A) → ((k ≡ c) × (get_or (set l c a) k d ≡ a)) ⊎ (get_or (set l c a) k d ≡ get_or l k d)
get_d-set-cases [] c k a d = inr refl
get_d-set-cases (x ∷ l) zero zero a d = inl (refl, refl)
get_d-set-cases (x ∷ l) zero (suc k) a d = inr refl
get_d-set-cases (x ∷ l) (suc c) zero a d = inr refl
get_d-set-cases (x ∷ l) (suc c) (suc k) a d = go (get_d-set-cases l c k a d)
  where
    go : ((k ≡ c) × (get_or (set l c a) k d ≡ a)) ⊎ (get_or (set l c a) k d ≡ get_or l k d) → ((suc k ≡ suc c) × (get_or (set l c a) k d ≡ a))
        ⊎ (get_or (set l c a) k d ≡ get_or l k d)
    go (inl h) = inl (ap suc h.0, h.1)
    go (inr h) = inr h

module _ {A : Type 0} (f : A → A → Bool) (ex : Exact f) where
  -- a member is found by its test
  pub member_of : (x : A) (l : List A) → Memᴰ x l → member_by f x l ≡ true
  member_of x [] m = absurd (Memᴰ.not-nil m)
  member_of x (y ∷ l) m = go (Memᴰ.cases_cons m) (λ k. member_of x l k)
    where
      go : (x ≡ y) ⊎ Memᴰ x l → (Memᴰ x l → member_by f x l ≡ true) → f x y || member_by f x l ≡ true
      go (inl e) ih = rw (← e, ex.self x)
      go (inr k) ih = rw (ih k) (or-true (f x y))

  -- what its test finds is a member
  pub member-to : (x : A) (l : List A) → member_by f x l ≡ true → Memᴰ x l
  member-to x [] h = absurd (false≢true h)
  member-to x (y ∷ l) h = go (f x y) refl (λ k. member-to x l k)
    where
      go : (b : Bool) → f x y ≡ b → (member_by f x l ≡ true → Memᴰ x l) → Memᴰ x (y ∷ l)
      go true e ih = Memᴰ.head (ex.to x y e)
      go false e ih = Memᴰ.tail (ih (rw e at h))

  -- a member of a list is one of a longer list
  pub member-more : (x : A) (l k : List A) → member_by f x l ≡ true → member_by f x (l ++ k) ≡ true
  member-more x [] k h = absurd (false≢true h)
  member-more x (y ∷ l) k h = go (f x y) refl (λ e. member-more x l k e)
    where
      go : (b : Bool) → f x y ≡ b → (member_by f x l ≡ true → member_by f x (l ++ k) ≡ true) → f x y || member_by f x (l ++ k) ≡ true
      go true e ih = rw e
      go false e ih = rw e (ih (rw e at h))

  -- a member stays where the list goes on
  pub member-extends : (x : A) {l k : List A} → Extends l k → member_by f x l ≡ true → member_by f x k ≡ true
  member-extends x {l} a h = rw a.joined at (member-more x l a.more h)

  -- what was put at the end is a member
  pub member-last : (x : A) (l : List A) → member_by f x (l ++ x ∷ []) ≡ true
  member-last x [] = rw (ex.self x)
  member-last x (y ∷ l) = rw (member-last x l) (or-true (f x y))

  -- a list goes on when an element is added
  pub add-extends : (l : List A) (x : A) → Extends l (add_by f l x)
  add-extends l x = go (member_by f x l) refl
    where
      go : (b : Bool) → member_by f x l ≡ b → Extends l (add_by f l x)
      go true e = rw e (extends-self l)
      go false e = rw e (record { more = x ∷ []; joined = refl })

  -- a member stays when another is added
  pub add-keeps : (x : A) (l : List A) (y : A) → member_by f x l ≡ true → member_by f x (add_by f l y) ≡ true
  add-keeps x l y h = member-extends x (add-extends l y) h

  -- what was added is a member
  pub add-has : (l : List A) (x : A) → member_by f x (add_by f l x) ≡ true
  add-has l x = go (member_by f x l) refl
    where
      go : (b : Bool) → member_by f x l ≡ b → member_by f x (add_by f l x) ≡ true
      go true e = rw e e
      go false e = rw e (member-last x l)

  -- what holds of all elements and of x holds of all after x is added
  pub add-all : (P : A → Type 0) (l : List A) (x : A) → ((y : A) → Memᴰ y l → P y) → P x → (y : A) → Memᴰ y (add_by f l x) → P y
  add-all P l x h p = go (member_by f x l) refl
    where
      last : (l : List A) → ((y : A) → Memᴰ y l → P y) → (y : A) → Memᴰ y (l ++ x ∷ []) → P y
      last [] h y m = at (Memᴰ.cases_cons m)
        where
          at : (y ≡ x) ⊎ Memᴰ y [] → P y
          at (inl e) = rw e p
          at (inr k) = absurd (Memᴰ.not-nil k)
      last (z ∷ l) h y m = at (Memᴰ.cases_cons m) (λ k. last l (λ w i. h w (Memᴰ.tail i)) y k)
        where
          at : (y ≡ z) ⊎ Memᴰ y (l ++ x ∷ []) → (Memᴰ y (l ++ x ∷ []) → P y) → P y
          at (inl e) ih = h y (Memᴰ.head e)
          at (inr k) ih = ih k

      go : (b : Bool) → member_by f x l ≡ b → (y : A) → Memᴰ y (add_by f l x) → P y
      go true e = rw e h
      go false e = rw e (last l h)

  -- a member stands at its index
  pub index-member : (d x : A) (l : List A) → member_by f x l ≡ true → (index_by f x l < length l) × (get_or l (index_by f x l) d ≡ x)
  index-member d x [] h = absurd (false≢true h)
  index-member d x (y ∷ l) h = go (f x y) refl (λ e. index-member d x l e)
    where
      go : (b : Bool) → f x y ≡ b → (member_by f x l ≡ true → (index_by f x l < length l) × (get_or l (index_by f x l) d ≡ x))
          → (index_by f x (y ∷ l) < length (y ∷ l)) × (get_or (y ∷ l) (index_by f x (y ∷ l)) d ≡ x)
      go true e ih = rw e (omega arith, sym (ex.to x y e))
      go false e ih = let w = ih (rw e at h) in rw e (omega (arith, w.0), w.1)

  -- one among the first k has an index below k
  pub index-take : (x : A) (l : List A) (k : ℕ) → member_by f x (take k l) ≡ true → index_by f x l < k
  index-take x l zero h = absurd (false≢true h)
  index-take x [] (suc k) h = absurd (false≢true h)
  index-take x (y ∷ l) (suc k) h = go (f x y) refl (λ e. index-take x l k e)
    where
      go : (b : Bool) → f x y ≡ b → (member_by f x (take k l) ≡ true → index_by f x l < k) → index_by f x (y ∷ l) < suc k
      go true e ih = rw e (omega arith)
      go false e ih = rw e (omega (arith, ih (rw e at h)))

  -- a test that tells equality can be turned round
  pub flip : (x y : A) (b : Bool) → f x y ≡ b → f y x ≡ b
  flip x y true e = let q = ex.to x y e in rw q (ex.self y)
  flip x y false e = go (f y x) refl
    where
      go : (b : Bool) → f y x ≡ b → b ≡ false
      go true k = let q = ex.to y x k in sym (ex.self x) ∙ ap (f x) (sym q) ∙ e
      go false k = refl

  -- what is no member is none after another was put at the end
  pub not_last : (x y : A) (l : List A) → member_by f x l ≡ false → f x y ≡ false → member_by f x (l ++ y ∷ []) ≡ false
  not_last x y [] h e = rw e
  not_last x y (z ∷ l) h e = go (f x z) refl (λ k. not_last x y l k e)
    where
      go : (b : Bool) → f x z ≡ b → (member_by f x l ≡ false → member_by f x (l ++ y ∷ []) ≡ false) → f x z || member_by f x (l ++ y ∷ []) ≡ false
      go true i ih = let k : true ≡ false = rw i at h in absurd (true≢false k)
      go false i ih = rw i (ih (rw i at h))

  -- a list without repeats, with an element that it lacks put at the end
  pub distinct-last : (l : List A) (x : A) → Distinct f l → member_by f x l ≡ false → Distinct f (l ++ x ∷ [])
  distinct-last [] x d h = (refl, tt)
  distinct-last (y ∷ l) x d h = go (f x y) refl (λ k. distinct-last l x d.1 k)
    where
      go : (b : Bool) → f x y ≡ b → (member_by f x l ≡ false → Distinct f (l ++ x ∷ [])) → (member_by f y (l ++ x ∷ []) ≡ false) × Distinct f (l ++ x ∷ [])
      go true i ih = let k : true ≡ false = rw i at h in absurd (true≢false k)
      go false i ih = (not_last y x l d.0 (flip x y false i), ih (rw i at h))

  -- adding makes no repeats
  pub distinct-add : (l : List A) (x : A) → Distinct f l → Distinct f (add_by f l x)
  distinct-add l x d = go (member_by f x l) refl
    where
      go : (b : Bool) → member_by f x l ≡ b → Distinct f (add_by f l x)
      go true e = rw e d
      go false e = rw e (distinct-last l x d e)

  -- where nothing stands twice, the element at k has index k
  pub index_at : (d : A) (l : List A) → Distinct f l → (k : ℕ) → k < length l → index_by f (get_or l k d) l ≡ k
  index_at d [] n k h = absurd (omega arith)
  index_at d (y ∷ l) n zero h = rw (ex.self y)
  index_at d (y ∷ l) n (suc k) h = go (f (get_or l k d) y) refl (index_at d l n.1 k (omega arith))
    where
      go : (b : Bool) → f (get_or l k d) y ≡ b → index_by f (get_or l k d) l ≡ k → index_by f (get_or l k d) (y ∷ l) ≡ suc k
      go true e ih =
          let q = ex.to (get_or l k d) y e in
          let z : true ≡ false = sym (member_of (get_or l k d) l (mem-at l k d (omega arith))) ∙ ap (λ u. member_by f u l) q ∙ n.0 in
          absurd (true≢false z)
      go false e ih = rw e (ap suc ih)

  -- the list without the first x
  abbrev pub remove : A → List A → List A
  remove x [] = []
  remove x (y ∷ l) = cond (f x y) l (y ∷ remove x l)

  -- a list without one of its members is shorter by one
  pub remove-length : (x : A) (l : List A) → member_by f x l ≡ true → length l ≡ suc (length (remove x l))
  remove-length x [] h = absurd (false≢true h)
  remove-length x (y ∷ l) h = go (f x y) refl (λ e. remove-length x l e)
    where
      go : (b : Bool) → f x y ≡ b → (member_by f x l ≡ true → length l ≡ suc (length (remove x l))) → length (y ∷ l) ≡ suc (length (remove x (y ∷ l)))
      go true e ih = rw e
      go false e ih = rw e (ap suc (ih (rw e at h)))

  -- another member stays when one is removed
  pub remove-keeps : (x y : A) (l : List A) → member_by f y l ≡ true → f x y ≡ false → member_by f y (remove x l) ≡ true
  remove-keeps x y [] h n = absurd (false≢true h)
  remove-keeps x y (z ∷ l) h n = go (f x z) refl (f y z) refl (λ e. remove-keeps x y l e n)
    where
      go : (b : Bool) → f x z ≡ b → (c : Bool) → f y z ≡ c → (member_by f y l ≡ true → member_by f y (remove x l) ≡ true) → member_by f y (remove x (z ∷ l)) ≡ true
      go true e true i ih =
          let k : f x y ≡ true = ap (f x) (ex.to y z i) ∙ e in
          absurd (true≢false (sym k ∙ n))
      go true e false i ih = rw e (rw i at h)
      go false e true i ih = rw (e, i)
      go false e false i ih = rw (e, i) (ih (rw i at h))

  -- a list without repeats, all of whose elements are in another, is no longer than that
  pub distinct-fits : (l k : List A) → Distinct f l → ((x : A) → Memᴰ x l → member_by f x k ≡ true) → length l ≤ length k
  distinct-fits [] k d h = omega arith
  distinct-fits (x ∷ l) k d h =
      omega (
        arith,
        remove-length x k (h x (Memᴰ.head refl)),
        distinct-fits l (remove x k) d.1 (λ y m. remove-keeps x y k (h y (Memᴰ.tail m)) (other y m)),
      )
    where
      other : (y : A) → Memᴰ y l → f x y ≡ false
      other y m = go (f x y) refl
        where
          go : (b : Bool) → f x y ≡ b → b ≡ false
          go false e = refl
          go true e = let i : member_by f x l ≡ true = rw (ex.to x y e) (member_of y l m) in absurd (true≢false (sym i ∙ d.0))

-- the index of what the first of two lists lacks, in both
pub index-join : {A : Type 0} (q : A → A → Bool) (x : A) (l r : List A) → member_by q x l ≡ false → index_by q x (l ++ r) ≡ length l + index_by q x r
index-join q x [] r e = omega arith
index-join q x (y ∷ l) r e = by_test (q x y)
    (λ t. absurd (true≢false (rw t at e)))
    (λ t. rw t (ap suc (index-join q x l r (rw t at e)) ∙ let z : suc (length l + index_by q x r) ≡ suc (length l) + index_by q x r = omega arith in z))

-- a member of two lists is one of the first or of the second
pub member-join : {A : Type 0} (q : A → A → Bool) (x : A) (l r : List A) → member_by q x (l ++ r) ≡ (member_by q x l || member_by q x r)
member-join q x [] r = refl
member-join q x (y ∷ l) r = by_test (q x y) (λ t. rw t) (λ t. rw t (member-join q x l r))

-- a list of one value has it everywhere, also past its end
pub get_d-all : {A : Type 0} (n i : ℕ) (a : A) → get_or (replicate n a) i a ≡ a
get_d-all zero i a = refl
get_d-all (suc n) zero a = refl
get_d-all (suc n) (suc i) a = get_d-all n i a

-- what a function gives for the list has at a place
pub map_at : {A B : Type 0} (f : A → B) (l : List A) (k : ℕ) (d : A) (e : B) → k < length l → get_or (map f l) k e ≡ f (get_or l k d)
map_at f [] k d e h = absurd (omega arith)
map_at f (x ∷ l) zero d e h = refl
map_at f (x ∷ l) (suc k) d e h = map_at f l k d e (omega arith)

-- the first k of what a function gives for the list
pub map-take : {A B : Type 0} (f : A → B) (k : ℕ) (l : List A) → map f (take k l) ≡ take k (map f l)
map-take f zero l = refl
map-take f (suc k) [] = refl
map-take f (suc k) (x ∷ l) = ap (λ r. f x ∷ r) (map-take f k l)

-- a member of what a function gives for the list comes from one of the list
pub map-mem : {A B : Type 0} (f : A → B) (xs : List A) (y : B) → Memᴰ y (map f xs) → (x : A) × Memᴰ x xs × (y ≡ f x)
map-mem {A} f [] y m = absurd (Memᴰ.not-nil m)
map-mem {A} f (x ∷ xs) y m = go (Memᴰ.cases_cons m) (λ k. map-mem f xs y k)
  where
    go : (y ≡ f x) ⊎ Memᴰ y (map f xs) → (Memᴰ y (map f xs) → (z : A) × Memᴰ z xs × (y ≡ f z)) → (z : A) × Memᴰ z (x ∷ xs) × (y ≡ f z)
    go (inl i) ih = (x, Memᴰ.head refl, i)
    go (inr k) ih = let w = ih k in (w.0, Memᴰ.tail w.1, w.2)

-- what a function gives for a member is a member of what it gives for the list
pub mem-map : {A B : Type 0} (f : A → B) (xs : List A) (x : A) → Memᴰ x xs → Memᴰ (f x) (map f xs)
mem-map f [] x m = absurd (Memᴰ.not-nil m)
mem-map {A} {B} f (y ∷ xs) x m = go (Memᴰ.cases_cons m) (λ k. mem-map f xs x k)
  where
    go : (x ≡ y) ⊎ Memᴰ x xs → (Memᴰ x xs → Memᴰ (f x) (map f xs)) → Memᴰ (f x) (f y ∷ map f xs)
    go (inl i) ih = Memᴰ.head (ap f i)
    go (inr k) ih = Memᴰ.tail (ih k)

module _ {A : Type 0} (f : A → A → Bool) (x : A) where
  -- the index in two lists: in the first if it is there, else in the second
  pub index-append : (a b : List A) → index_by f x (a ++ b) ≡ cond (member_by f x a) (index_by f x a) (length a + index_by f x b)
  index-append [] b = omega arith
  index-append (y ∷ a) b = go (f x y) (member_by f x a) (index-append a b)
    where
      go : (t m : Bool) → index_by f x (a ++ b) ≡ cond m (index_by f x a) (length a + index_by f x b)
          → cond t 0 (suc (index_by f x (a ++ b))) ≡ cond (t || m) (cond t 0 (suc (index_by f x a))) (length (y ∷ a) + index_by f x b)
      go true m ih = refl
      go false true ih = ap suc ih
      go false false ih = omega (arith, ih)
