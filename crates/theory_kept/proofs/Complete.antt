-- Laws of whole tables: all marks are kept exactly if every combination has a signal, and kept marks are said in any order.
use Prim.Native.Nat.{ℕ, zero, suc, ◌+◌, ◌<◌}
use mathlib.Core.Path.{◌≡◌, refl, sym, ap, ◌∙◌}
use mathlib.Core.Logic.{◌⊎◌, inl, inr, ◌↔◌, ◌≢◌}
use mathlib.Core.Bool.{true}
use mathlib.Core.Option.{some, none, none-ne-some, some-injective}
use mathlib.Core.List.Memᴰ
use mathlib.Core.List.{List, [], ◌∷◌, Memᴰ}
use lib.ListN.{get_or, set, length, length-set}
use lib.Seq.{get_or-set_same, get_or-set_other, ext_get_or}
use native.Mathlib.Omega.{arith}
use native.Mathlib.Decide.{ℕ_discrete}
use Rattle.theory_resolution.specs.Names.{Parts, Above}
use Rattle.theory_resolution.specs.Table.{Urn, urn, Table, Row, place, row_of, find, WellFormed}
use Rattle.theory_resolution.specs.Nodes.{nodes, is_node, RootOrNode}
use Rattle.theory_resolution.specs.Direct.{direct}
use Rattle.theory_resolution.specs.Says.{Says, Given}
use Rattle.theory_resolution.proofs.Names.{above-self, above_root}
use Rattle.theory_resolution.proofs.Table.{row-length, row-place, find-sound, find-start, find-below}
use Rattle.theory_resolution.proofs.Nodes.{row-nodes}
use Rattle.theory_resolution.proofs.Numbers.{ancestor-node}
use Rattle.theory_resolution.proofs.Says.{says-only-given}
use Rattle.theory_resolution.proofs.TableStep.{table-laws, state-direct, state-signal}
use Rattle.theory_kept.specs.Kept.{EachUsed, OneWay, rung, Kept, Complete, Full}
use Rattle.theory_kept.specs.Laws.{CompleteLaw}
use Rattle.theory_kept.proofs.Paths.{above-antisym}
use Rattle.theory_kept.proofs.Kept.{kept-where}

-- a URN for each place of a row that is not the root, categories from k on
marks_from : ℕ → Row → List Urn
marks_from k [] = []
marks_from k ([] ∷ r) = marks_from (suc k) r
marks_from k ((x ∷ p) ∷ r) = urn k (x ∷ p) ∷ marks_from (suc k) r

-- what stands there
record FromRow (k : ℕ) (r : Row) (u : Urn) : Type 0 where
  index : ℕ
  low : index < length r
  cat : u.cat ≡ k + index
  path : u.path ≡ get_or r index []
  some-part : u.path ≢ []

marks-to : (k : ℕ) (r : Row) (u : Urn) → Memᴰ u (marks_from k r) → FromRow k r u
unfolding marks_from
marks-to k [] u m = absurd (Memᴰ.not-nil m)
marks-to k ([] ∷ r) u m =
    let f = marks-to (suc k) r u m in
    record { index = suc f.index; low = omega (arith, f.low); cat = omega (arith, f.cat); path = f.path; some-part = f.some-part }
marks-to k ((x ∷ p) ∷ r) u m = go (Memᴰ.cases_cons m) (marks-to (suc k) r u)
  where
    go : (u ≡ urn k (x ∷ p)) ⊎ Memᴰ u (marks_from (suc k) r) → (Memᴰ u (marks_from (suc k) r) → FromRow (suc k) r u) → FromRow k ((x ∷ p) ∷ r) u
    go (inl e) ih =
        record {
          index = 0;
          low = omega arith;
          cat = omega (arith, ap (λ v. v.cat) e);
          path = ap (λ v. v.path) e;
          some-part = λ i. let z : x ∷ p ≡ [] = sym (ap (λ v. v.path) e) ∙ i in let y : ◌≡◌ {A = ℕ} 0 1 = cc in omega arith;
        }
    go (inr i) ih =
        let f = ih i in
        record { index = suc f.index; low = omega (arith, f.low); cat = omega (arith, f.cat); path = f.path; some-part = f.some-part }

marks-of : (k : ℕ) (r : Row) (i : ℕ) → i < length r → get_or r i [] ≢ [] → Memᴰ (urn (k + i) (get_or r i [])) (marks_from k r)
unfolding marks_from
marks-of k [] i h n = absurd (omega arith)
marks-of k ([] ∷ r) zero h n = absurd (n refl)
marks-of k ([] ∷ r) (suc i) h n = let e : k + suc i ≡ suc k + i = omega arith in rw e (marks-of (suc k) r i (omega arith) n)
marks-of k ((x ∷ p) ∷ r) zero h n = let e : k + 0 ≡ k = omega arith in rw e (Memᴰ.head refl)
marks-of k ((x ∷ p) ∷ r) (suc i) h n = let e : k + suc i ≡ suc k + i = omega arith in rw e (Memᴰ.tail (marks-of (suc k) r i (omega arith) n))

module _ (t : Table) (wf : WellFormed t) where
  live : find t (row_of t 0) ≡ some 0
  live = find-start t wf.some-signal

  listed : (r : Row) (s : ℕ) → find t r ≡ some s → s < length t.signals
  listed r s e = omega (arith, find-below t.cats 0 t.signals r s e)

  only-given : (us : List Urn) (c : ℕ) (p : Parts) → Says t (rung t us) c p → Given us c p
  only-given = says-only-given t wf (find t) (find-sound t) live

  -- two signals that direct resolution gives, with the same places, are one
  same-places : (us : List Urn) (r : Row) → length r ≡ t.cats → ((c : ℕ) → c < t.cats → place t (rung t us) c ≡ get_or r c []) → find t r ≡ some (rung t us)
  same-places us r e h = ap (find t) (sym row) ∙ (state-direct t wf us).live
    where
      wide : length (row_of t (rung t us)) ≡ t.cats
      wide = row-length (get_or t.signals (rung t us) []) 0 t.cats

      row : row_of t (rung t us) ≡ r
      row = ext_get_or [] (row_of t (rung t us)) r (wide ∙ sym e) (λ c i. let k : c < t.cats = omega (arith, wide) in row-place t (rung t us) c k ∙ h c k)

  -- what the signal says is a node
  said-node : (us : List Urn) (c : ℕ) (p : Parts) → Says t (rung t us) c p → is_node (nodes t) c p ≡ true
  said-node us c p s =
      go (ancestor-node t c p (get_or (row_of t (rung t us)) c []) (rw (row-place t (rung t us) c s.known) s.above)
      (row-nodes t (rung t us) (state-signal t (direct t us) (state-direct t wf us)) c))
    where
      go : RootOrNode (nodes t) c p → is_node (nodes t) c p ≡ true
      go (inl e) = absurd (s.some-part e)
      go (inr n) = n

  -- a place that is not the root is said
  place-said : (us : List Urn) (c : ℕ) → c < t.cats → place t (rung t us) c ≢ [] → Says t (rung t us) c (place t (rung t us) c)
  place-said us c h n = record { known = h; some-part = n; above = above-self (place t (rung t us) c) }

  some-or-root : (p : Parts) → (p ≡ []) ⊎ (p ≢ [])
  some-or-root [] = inl refl
  some-or-root (x ∷ p) = inr (λ e. let y : ◌≡◌ {A = ℕ} 0 1 = cc in omega arith)

  -- every combination has a signal
  full-of : Complete t → Full t
  full-of all r e each = (rung t us, same-places us r e at)
    where
      us : List Urn
      us = marks_from 0 r

      used : EachUsed t us
      used u m = let f = marks-to 0 r u m in record { known = omega (arith, f.low, f.cat); some-part = f.some-part }

      -- each category has one URN at the most
      its-path : (c : ℕ) (u : Urn) → Memᴰ u us → u.cat ≡ c → u.path ≡ get_or r c []
      its-path c u m i = let f = marks-to 0 r u m in let j : f.index ≡ c = omega (arith, f.cat) in f.path ∙ ap (λ k. get_or r k []) j

      one_way : (c : ℕ) → OneWay c us
      one_way c u v m n i j = inl (rw (its-path c u m i, its-path c v n j) (above-self (get_or r c [])))

      below : (c : ℕ) → c < t.cats → (get_or r c [] ≡ []) ⊎ (get_or r c [] ≢ []) → RootOrNode (nodes t) c (get_or r c [])
          → Above (get_or r c []) (place t (rung t us) c)
      below c h (inl z) k = rw z (above_root (place t (rung t us) c))
      below c h (inr n) (inl z) = absurd (n z)
      below c h (inr n) (inr k) =
          (all c (get_or r c []) h k us used (one_way c)
          (record { by = urn (0 + c) (get_or r c []); listed = marks-of 0 r c (omega arith) n; cat = omega arith; above = above-self (get_or r c []) })).above

      above : (c : ℕ) → c < t.cats → (place t (rung t us) c ≡ []) ⊎ (place t (rung t us) c ≢ []) → Above (place t (rung t us) c) (get_or r c [])
      above c h (inl z) = rw z (above_root (get_or r c []))
      above c h (inr n) = let g = only-given us c (place t (rung t us) c) (place-said us c h n) in rw (its-path c g.by g.listed g.cat) at g.above

      at : (c : ℕ) → c < t.cats → place t (rung t us) c ≡ get_or r c []
      at c h = above-antisym (place t (rung t us) c) (get_or r c []) (above c h (some-or-root (place t (rung t us) c)))
          (below c h (some-or-root (get_or r c [])) (each c h))

  of-full : Full t → Complete t
  of-full full c p known node = kept-where t wf (find t) (table-laws t wf) live listed c p known node lacks
    where
      lacks : (s : ℕ) → find t (row_of t s) ≡ some s → find t (set (row_of t s) c p) ≡ none → ⊥
      lacks s l e = let f = full (set (row_of t s) c p) (length-set (row_of t s) c p ∙ wide) each in none-ne-some f.0 (sym e ∙ f.1)
        where
          wide : length (row_of t s) ≡ t.cats
          wide = row-length (get_or t.signals s []) 0 t.cats

          each : (d : ℕ) → d < t.cats → RootOrNode (nodes t) d (get_or (set (row_of t s) c p) d [])
          each d h = go (ℕ_discrete d c)
            where
              go : Dec (d ≡ c) → RootOrNode (nodes t) d (get_or (set (row_of t s) c p) d [])
              go (yes i) = rw (i, get_or-set_same (row_of t s) c p [] (rw wide known)) (inr node)
              go (no n) = rw (get_or-set_other (row_of t s) c d p [] n) (row-nodes t s (listed (row_of t s) s l) d)

  says-given : (us : List Urn) → EachUsed t us → ((c : ℕ) → OneWay c us) → ((c : ℕ) (p : Parts) → Given us c p → is_node (nodes t) c p ≡ true → Kept t c p)
      → (c : ℕ) (p : Parts) → c < t.cats → Says t (rung t us) c p ↔ (is_node (nodes t) c p ≡ true) × Given us c p
  says-given us used one_way kept c p h = (λ s. (said-node us c p s, only-given us c p s), λ g. kept c p g.1 g.0 us used (one_way c) g.1)

  any_order : (us vs : List Urn) → EachUsed t us → EachUsed t vs → ((c : ℕ) → OneWay c us) → ((c : ℕ) → OneWay c vs)
      → ((c : ℕ) (p : Parts) → Given us c p → is_node (nodes t) c p ≡ true → Kept t c p)
      → ((c : ℕ) (p : Parts) → is_node (nodes t) c p ≡ true → Given us c p ↔ Given vs c p) → rung t us ≡ rung t vs
  any_order us vs used-us used-vs way-us way-vs kept same =
      some-injective (rung t us) (rung t vs)
      (sym (same-places us (row_of t (rung t vs)) wide (λ c h. at c h ∙ sym (row-place t (rung t vs) c h))) ∙ (state-direct t wf vs).live)
    where
      wide : length (row_of t (rung t vs)) ≡ t.cats
      wide = row-length (get_or t.signals (rung t vs) []) 0 t.cats

      there : (c : ℕ) → c < t.cats → (place t (rung t us) c ≡ []) ⊎ (place t (rung t us) c ≢ []) → Above (place t (rung t us) c) (place t (rung t vs) c)
      there c h (inl z) = rw z (above_root (place t (rung t vs) c))
      there c h (inr n) =
          let q = place t (rung t us) c in
          let s = place-said us c h n in
          let g = only-given us c q s in
          let k = said-node us c q s in
          (kept c q g k vs used-vs (way-vs c) ((same c q k).0 g)).above

      back : (c : ℕ) → c < t.cats → (place t (rung t vs) c ≡ []) ⊎ (place t (rung t vs) c ≢ []) → Above (place t (rung t vs) c) (place t (rung t us) c)
      back c h (inl z) = rw z (above_root (place t (rung t us) c))
      back c h (inr n) =
          let q = place t (rung t vs) c in
          let s = place-said vs c h n in
          let k = said-node vs c q s in
          let g = (same c q k).1 (only-given vs c q s) in
          (kept c q g k us used-us (way-us c) g).above

      at : (c : ℕ) → c < t.cats → place t (rung t us) c ≡ place t (rung t vs) c
      at c h = above-antisym (place t (rung t us) c) (place t (rung t vs) c) (there c h (some-or-root (place t (rung t us) c)))
          (back c h (some-or-root (place t (rung t vs) c)))

  pub complete-law : CompleteLaw t
  complete-law =
      record {
        full = (full-of, of-full);
        says-given = says-given;
        any_order = any_order;
        order-free = λ all us vs used-us used-vs way-us way-vs.
            any_order us vs used-us used-vs way-us way-vs (λ c p g n. all c p (rw g.cat at (used-us g.by g.listed).known) n);
      }
