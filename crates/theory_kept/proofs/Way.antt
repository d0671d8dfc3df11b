-- Laws of the first number that passes a test, and of the way back.
use Prim.Native.Nat.{ℕ, zero, suc, ◌≤◌, ◌<◌}
use mathlib.Core.Path.{◌≡◌, refl, sym, ap, ◌∙◌}
use mathlib.Core.Logic.{◌⊎◌, inl, inr, ◌≢◌}
use mathlib.Core.Bool.{Bool, true, false, cond, true≢false}
use mathlib.Core.List.Memᴰ
use mathlib.Core.List.{List, [], ◌∷◌, ◌++◌, foldl, foldl-append, Memᴰ}
use lib.Dec.{ltb}
use lib.ListN.{get_or, length, length-append}
use borrow.Author.Tests.{ltb-true, lt-ltb, le-ltb}
use native.Mathlib.Omega.{arith}
use native.Mathlib.Decide.{dec_lt, ℕ_discrete}
use Rattle.base_lists.proofs.Lists.{Exact, index_at, index-take, index-member, member_of}
use Rattle.base_lists.specs.Lists.{index_by}
use Rattle.theory_resolution.specs.Discovery.{Reached, FirstMet, BreadthFirst}
use Rattle.theory_kept.specs.Way.{first_below, symbol_to, state_before, way_back, way_to, WayLaw}

-- the first number below n that passes the test
pub first-le : (f : ℕ → Bool) (n : ℕ) → first_below f n ≤ n
unfolding first_below
first-le f zero = omega arith
first-le f (suc n) = go (dec_lt (first_below f n) n) (f n) (first-le f n)
  where
    go : Dec (first_below f n < n) → (b : Bool) → first_below f n ≤ n → cond (ltb (first_below f n) n) (first_below f n) (cond b n (suc n)) ≤ suc n
    go (yes h) b i = rw (lt-ltb (first_below f n) n h) (omega arith)
    go (no h) true i = rw (le-ltb (first_below f n) n (omega arith)) (omega arith)
    go (no h) false i = rw (le-ltb (first_below f n) n (omega arith)) (omega arith)

pub first_passes : (f : ℕ → Bool) (n : ℕ) → first_below f n < n → f (first_below f n) ≡ true
unfolding first_below
first_passes f zero h = absurd (omega arith)
first_passes f (suc n) h = go (dec_lt (first_below f n) n) (f n) refl (first_passes f n) h
  where
    go : Dec (first_below f n < n) → (b : Bool) → f n ≡ b → (first_below f n < n → f (first_below f n) ≡ true)
        → cond (ltb (first_below f n) n) (first_below f n) (cond b n (suc n)) < suc n
        → f (cond (ltb (first_below f n) n) (first_below f n) (cond b n (suc n))) ≡ true
    go (yes i) b e ih = rw (lt-ltb (first_below f n) n i) (λ k. ih i)
    go (no i) true e ih = rw (le-ltb (first_below f n) n (omega arith)) (λ k. e)
    go (no i) false e ih = rw (le-ltb (first_below f n) n (omega arith)) (λ k. absurd (omega arith))

pub first-least : (f : ℕ → Bool) (n k : ℕ) → k < n → f k ≡ true → first_below f n ≤ k
unfolding first_below
first-least f zero k h e = absurd (omega arith)
first-least f (suc n) k h e = go (dec_lt (first_below f n) n) (ℕ_discrete k n) (f n) refl (λ i. first-least f n k i e)
  where
    go : Dec (first_below f n < n) → Dec (k ≡ n) → (b : Bool) → f n ≡ b → (k < n → first_below f n ≤ k)
        → cond (ltb (first_below f n) n) (first_below f n) (cond b n (suc n)) ≤ k
    go (yes i) (yes j) b g ih = rw (lt-ltb (first_below f n) n i) (omega arith)
    go (yes i) (no j) b g ih = rw (lt-ltb (first_below f n) n i) (ih (omega arith))
    go (no i) (no j) b g ih = absurd (omega (arith, ih (omega arith)))
    go (no i) (yes j) true g ih = rw (le-ltb (first_below f n) n (omega arith)) (omega arith)
    go (no i) (yes j) false g ih = absurd (true≢false (sym e ∙ ap f j ∙ g))

-- a list is empty or has a last element
pub last_view : {A : Type 0} (l : List A) → (l ≡ []) ⊎ ((e : List A) × (x : A) × (l ≡ e ++ x ∷ []))
last_view [] = inl refl
last_view (y ∷ l) = go (last_view l)
  where
    go : (l ≡ []) ⊎ ((e : List _) × (x : _) × (l ≡ e ++ x ∷ [])) → (y ∷ l ≡ []) ⊎ ((e : List _) × (x : _) × (y ∷ l ≡ e ++ x ∷ []))
    go (inl i) = inr ([], y, ap (λ z. y ∷ z) i)
    go (inr w) = inr (y ∷ w.0, w.1, ap (λ z. y ∷ z) w.2)

-- as many steps back as are asked for, at the most
pub way-length : {S : Type 0} (same : S → S → Bool) (next : S → ℕ → S) (count : ℕ) (begin : S) (l : List S) (n j : ℕ)
    → length (way_back same next count begin l n j) ≤ n
unfolding way_back
way-length same next count begin l zero j = omega arith
way-length same next count begin l (suc n) zero = omega arith
way-length same next count begin l (suc n) (suc j) =
    let b = state_before same next count begin l (get_or l (suc j) begin) in
    omega (
      arith,
      length-append (way_back same next count begin l n b)
          (symbol_to same next count begin (get_or l b begin) (get_or l (suc j) begin) ∷ []),
      way-length same next count begin l n b,
    )

module _ {S : Type 0} (same : S → S → Bool) (ex : Exact same) (next : S → ℕ → S) (count : ℕ) (begin : S) (l : List S)
    (o : BreadthFirst next count begin same l) where
  abbrev at : ℕ → S
  at j = get_or l j begin

  -- the first step back from the state with number j
  record Back (j : ℕ) : Type 0 where
    earlier : state_before same next count begin l (at j) < j
    listed : symbol_to same next count begin (at (state_before same next count begin l (at j))) (at j) < count
    leads : next (at (state_before same next count begin l (at j)))
        (symbol_to same next count begin (at (state_before same next count begin l (at j))) (at j)) ≡ at j
    -- no state before it leads there, or to a state with a higher number
    least : (a b i : ℕ) → b < count → j ≤ i → i < length l → next (at a) b ≡ at i → state_before same next count begin l (at j) ≤ a

  back : (j : ℕ) → 0 < j → j < length l → Back j
  back j p h = go (o.numbered j p h)
    where
      test : ℕ → Bool
      test a = ltb (symbol_to same next count begin (at a) (at j)) count

      go : FirstMet next count begin same l j → Back j
      go f =
          record {
            earlier = omega (arith, low, f.earlier);
            listed = by;
            leads = ex.to _ _ (first_passes (λ k. same (next (at (first_below test (length l))) k) (at j)) count by);
            least = least;
          }
        where
          symbol : symbol_to same next count begin (at f.from) (at j) ≤ f.symbol
          symbol = first-least (λ k. same (next (at f.from) k) (at j)) count f.symbol f.listed (rw f.leads (ex.self (at j)))

          passes : test f.from ≡ true
          passes = lt-ltb (symbol_to same next count begin (at f.from) (at j)) count (omega (arith, symbol, f.listed))

          low : first_below test (length l) ≤ f.from
          low = first-least test (length l) f.from (omega (arith, f.earlier)) passes

          by : symbol_to same next count begin (at (first_below test (length l))) (at j) < count
          by = ltb-true _ _ (first_passes test (length l) (omega (arith, low, f.earlier)))

          least : (a b i : ℕ) → b < count → j ≤ i → i < length l → next (at a) b ≡ at i → state_before same next count begin l (at j) ≤ a
          least a b i c d e g = on (dec_lt a f.from)
            where
              on : Dec (a < f.from) → first_below test (length l) ≤ a
              on (no n) = omega (arith, low)
              on (yes n) =
                  let m = index-take same ex (at i) l j (rw g at (f.before a b (inl n) c)) in
                  absurd (omega (arith, index_at same ex begin l o.distinct i e))

  way-listed : (n j : ℕ) → j ≤ n → j < length l → (k : ℕ) → Memᴰ k (way_back same next count begin l n j) → k < count
  unfolding way_back
  way-listed zero j a b k m = absurd (Memᴰ.not-nil m)
  way-listed (suc n) zero a b k m = absurd (Memᴰ.not-nil m)
  way-listed (suc n) (suc j) a b k m = go (back (suc j) (omega arith) b) (Memᴰ.append_cases _ m)
      (way-listed n (state_before same next count begin l (at (suc j))))
    where
      go : Back (suc j)
          → Memᴰ k (way_back same next count begin l n (state_before same next count begin l (at (suc j))))
          ⊎ Memᴰ k (symbol_to same next count begin (at (state_before same next count begin l (at (suc j)))) (at (suc j)) ∷ [])
          → (state_before same next count begin l (at (suc j)) ≤ n → state_before same next count begin l (at (suc j)) < length l → (k : ℕ)
          → Memᴰ k (way_back same next count begin l n (state_before same next count begin l (at (suc j)))) → k < count)
          → k < count
      go w (inl i) ih = let e = w.earlier in ih (omega arith) (omega arith) k i
      go w (inr i) ih = rw (Memᴰ.eq_of_singleton i) w.listed

  way-leads : (n j : ℕ) → j ≤ n → j < length l → foldl next begin (way_back same next count begin l n j) ≡ at j
  unfolding way_back
  way-leads zero zero a b = sym o.begins
  way-leads zero (suc j) a b = absurd (omega arith)
  way-leads (suc n) zero a b = sym o.begins
  way-leads (suc n) (suc j) a b =
      let w = back (suc j) (omega arith) b in
      let e = w.earlier in
      foldl-append next begin (way_back same next count begin l n (state_before same next count begin l (at (suc j)))) _
      ∙ ap (λ s. next s (symbol_to same next count begin (at (state_before same next count begin l (at (suc j)))) (at (suc j))))
      (way-leads n (state_before same next count begin l (at (suc j))) (omega arith) (omega arith))
      ∙ w.leads

  way-shortest : (n j : ℕ) → j ≤ n → j < length l → (ks : List ℕ) (i : ℕ) → ((k : ℕ) → Memᴰ k ks → k < count) → j ≤ i → i < length l
      → foldl next begin ks ≡ at i
      → length (way_back same next count begin l n j) ≤ length ks
  unfolding way_back
  way-shortest zero j a b ks i c d e g = omega arith
  way-shortest (suc n) zero a b ks i c d e g = omega arith
  way-shortest (suc n) (suc j) a b ks i c d e g = go (last_view ks) (way-shortest n (state_before same next count begin l (at (suc j))))
    where
      sb : ℕ
      sb = state_before same next count begin l (at (suc j))

      w : Back (suc j)
      w = back (suc j) (omega arith) b

      go : (ks ≡ []) ⊎ ((is : List ℕ) × (x : ℕ) × (ks ≡ is ++ x ∷ []))
          → (sb ≤ n → sb < length l → (ks : List ℕ) (i : ℕ) → ((k : ℕ) → Memᴰ k ks → k < count) → sb ≤ i → i < length l → foldl next begin ks ≡ at i
          → length (way_back same next count begin l n sb) ≤ length ks)
          → length (way_back same next count begin l n sb ++ symbol_to same next count begin (at sb) (at (suc j)) ∷ []) ≤ length ks
      go (inl z) ih =
          let x : at 0 ≡ at i = o.begins ∙ sym (ap (foldl next begin) z) ∙ g in
          absurd (omega (
            arith,
            sym (index_at same ex begin l o.distinct 0 (omega arith)) ∙ ap (λ s. index_by same s l) x
                ∙ index_at same ex begin l o.distinct i e,
          ))
      go (inr v) ih =
          let r : Reached next count begin (foldl next begin v.0) = record {
            by = v.0;
            listed = λ k m. c k (rw v.2 (Memᴰ.append_left _ m));
            leads = refl;
          } in
          let m = index-member same ex begin (foldl next begin v.0) l (member_of same ex _ l (o.complete _ r)) in
          let last : v.1 < count = c v.1 (rw v.2 (Memᴰ.append_right v.0 (Memᴰ.head refl))) in
          let step : next (at (index_by same (foldl next begin v.0) l)) v.1 ≡ at i =
          ap (λ s. next s v.1) m.1 ∙ sym (foldl-append next begin v.0 (v.1 ∷ [])) ∙ ap (foldl next begin) (sym v.2) ∙ g in
          let low = w.least (index_by same (foldl next begin v.0) l) v.1 i last d e step in
          let e' = w.earlier in
          let short = ih (omega arith) (omega arith) v.0 (index_by same (foldl next begin v.0) l) r.listed low m.0 (sym m.1) in
          omega (
            arith,
            short,
            length-append (way_back same next count begin l n sb) (symbol_to same next count begin (at sb) (at (suc j))
                ∷ []),
            length-append v.0 (v.1 ∷ []),
            ap length v.2,
          )

  pub way-law : (j : ℕ) → j < length l → WayLaw same next count begin l j
  way-law j h = record { listed = way-listed j j (omega arith) h; leads = way-leads j j (omega arith) h; shortest = way-shortest j j (omega arith) h }

  -- what holds of the start, and goes on with each symbol that leads to another state, holds along the way
  pub by_way : (P : List ℕ → S → Type 0) → P [] begin → ((ks : List ℕ) (s : S) (k : ℕ) → k < count → P ks s → next s k ≢ s → P (ks ++ k ∷ []) (next s k))
      → (j : ℕ) → j < length l → P (way_to same next count begin l j) (at j)
  unfolding way_back
  by_way P p h j b = along j j (omega arith) b
    where
      apart : (a j : ℕ) → a < j → j < length l → at j ≢ at a
      apart a j i b e =
          omega (
            arith,
            sym (index_at same ex begin l o.distinct j b) ∙ ap (λ s. index_by same s l) e
                ∙ index_at same ex begin l o.distinct a (omega arith),
          )

      along : (n j : ℕ) → j ≤ n → j < length l → P (way_back same next count begin l n j) (at j)
      along zero zero a b = rw o.begins p
      along zero (suc j) a b = absurd (omega arith)
      along (suc n) zero a b = rw o.begins p
      along (suc n) (suc j) a b =
          let w = back (suc j) (omega arith) b in
          let e = w.earlier in
          rw w.leads at
          (h (way_back same next count begin l n (state_before same next count begin l (at (suc j)))) (at (state_before same next count begin l (at (suc j))))
          (symbol_to same next count begin (at (state_before same next count begin l (at (suc j)))) (at (suc j))) w.listed
          (along n (state_before same next count begin l (at (suc j))) (omega arith) (omega arith))
          (λ z. apart (state_before same next count begin l (at (suc j))) (suc j) w.earlier b (sym w.leads ∙ z)))

  -- the same by the numbers of the states, each led to from the first one that leads there
  pub by_first : (P : List ℕ → ℕ → Type 0) → P [] 0
      → ((ks : List ℕ) (b j k : ℕ) → b < j → j < length l → k < count → next (at b) k ≡ at j
      → ((a i : ℕ) → i < count → next (at a) i ≡ at j → b ≤ a) → P ks b → P (ks ++ k ∷ []) j)
      → (j : ℕ) → j < length l → P (way_to same next count begin l j) j
  unfolding way_back
  by_first P p h j b = along j j (omega arith) b
    where
      along : (n j : ℕ) → j ≤ n → j < length l → P (way_back same next count begin l n j) j
      along zero zero a b = p
      along zero (suc j) a b = absurd (omega arith)
      along (suc n) zero a b = p
      along (suc n) (suc j) a b =
          let w = back (suc j) (omega arith) b in
          let e = w.earlier in
          h (way_back same next count begin l n (state_before same next count begin l (at (suc j)))) (state_before same next count begin l (at (suc j))) (suc j)
          (symbol_to same next count begin (at (state_before same next count begin l (at (suc j)))) (at (suc j))) w.earlier b w.listed w.leads
          (λ x i c d. w.least x i (suc j) c (omega arith) b d)
          (along n (state_before same next count begin l (at (suc j))) (omega arith) (omega arith))
