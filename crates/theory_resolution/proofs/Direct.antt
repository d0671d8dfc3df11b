-- Laws of the step of direct resolution, over any rows and any finder that is sound for them; then over lists.
use Prim.Native.Nat.{ℕ, ◌+◌, ◌≤◌, ◌<◌}
use mathlib.Core.Path.{◌≡◌, refl, sym, ap, ◌∙◌}
use mathlib.Core.Logic.{◌⊎◌, inl, inr}
use mathlib.Core.Bool.{Bool, true, false, false≢true, and-eq-true_iff}
use mathlib.Core.Option.{Option, none, some}
use mathlib.Core.List.{List, [], ◌∷◌, ◌++◌, foldl, append-nil, Memᴰ, map}
use lib.Dec.{eqb}
use borrow.Author.Tests.{eqb-true, eq-eqb}
use lib.ListN.{get_or, set}
use lib.Seq.{set-get_or}
use native.Mathlib.Omega.{arith}
use Rattle.base_lists.proofs.Lists.{Exact, list-exact, get_d-set-cases}
use Rattle.base_lists.specs.Lists.{same_list}
use Rattle.theory_resolution.specs.Names.{Parts, below, Above, candidates}
use Rattle.theory_resolution.specs.Table.{Urn, Row}
use Rattle.theory_resolution.specs.Direct.{Status, Open, Held, Shut, State, same_status, same_state, Hit, first_hit, takes_urn, move, step, Env}
use Rattle.theory_resolution.specs.Direct.{changed, changes}
use Rattle.theory_resolution.specs.Says.{Given}
use Rattle.theory_resolution.proofs.Names.{parts-exact, below-to, above-self, above-trans, between}
use Rattle.theory_resolution.proofs.Table.{total, total-grows}

-- the tests of statuses and states tell equality
pub status-exact : Exact same_status
status-exact = record { to = to; self = self }
  where
    to : (a b : Status) → same_status a b ≡ true → a ≡ b
    to Open Open e = refl
    to Open (Held w) e = absurd (false≢true e)
    to Open Shut e = absurd (false≢true e)
    to (Held v) Open e = absurd (false≢true e)
    to (Held v) (Held w) e = ap Held (parts-exact.to v w e)
    to (Held v) Shut e = absurd (false≢true e)
    to Shut Open e = absurd (false≢true e)
    to Shut (Held w) e = absurd (false≢true e)
    to Shut Shut e = refl

    self : (a : Status) → same_status a a ≡ true
    self Open = refl
    self (Held w) = parts-exact.self w
    self Shut = refl

pub state-exact : Exact same_state
state-exact = record { to = to; self = self }
  where
    to : (a b : State) → same_state a b ≡ true → a ≡ b
    to a b e =
        let k = (and-eq-true_iff (eqb a.signal b.signal) (same_list same_status a.status b.status)).0 e in
        let p = eqb-true a.signal b.signal k.0 in
        let q = (list-exact status-exact).to a.status b.status k.1 in
        λ i. record { signal = p i; status = q i }

    self : (a : State) → same_state a a ≡ true
    self a = rw (eq-eqb a.signal a.signal refl) ((list-exact status-exact).self a.status)

module _ (env : Env) where
  -- a hit of the search
  pub search-hit : (row : Row) (c : ℕ) (ps : List Parts) (h : Hit) → first_hit env row c ps ≡ some h
      → (env.finder (set row c h.at) ≡ some h.signal) × Memᴰ h.at ps
  search-hit row c [] h e = let z : ◌≡◌ {A = ℕ} 0 1 = cc in absurd (omega arith)
  search-hit row c (p ∷ ps) h e = go (env.finder (set row c p)) refl (λ e'. search-hit row c ps h e')
    where
      go : (o : Option ℕ) → env.finder (set row c p) ≡ o
          → (first_hit env row c ps ≡ some h → (env.finder (set row c h.at) ≡ some h.signal) × Memᴰ h.at ps)
          → (env.finder (set row c h.at) ≡ some h.signal) × Memᴰ h.at (p ∷ ps)
      go none f ih = let r = ih (rw f at e) in (r.0, Memᴰ.tail r.1)
      go (some s) f ih =
          let e' : some (record { at = p; signal = s }) ≡ some h = rw f at e in
          let e₁ : record { at = p; signal = s } ≡ h = cc in
          (rw (← e₁) f, Memᴰ.head (sym (ap (λ x. x.at) e₁)))

  -- candidates without a signal are passed over
  pub search-skip : (row : Row) (c : ℕ) (ps qs : List Parts) → ((p : Parts) → Memᴰ p ps → env.finder (set row c p) ≡ none)
      → first_hit env row c (ps ++ qs) ≡ first_hit env row c qs
  search-skip row c [] qs h = refl
  search-skip row c (p ∷ ps) qs h = rw (h p (Memᴰ.head refl)) (search-skip row c ps qs (λ q m. h q (Memᴰ.tail m)))

  -- where the last candidate has a signal the search finds one
  pub search-last : (row : Row) (c : ℕ) (ps : List Parts) (q : Parts) (s : ℕ) → env.finder (set row c q) ≡ some s
      → (h : Hit) × (first_hit env row c (ps ++ q ∷ []) ≡ some h)
  search-last row c [] q s f = (record { at = q; signal = s }, rw f)
  search-last row c (p ∷ ps) q s f = go (env.finder (set row c p)) refl (search-last row c ps q s f)
    where
      go : (o : Option ℕ) → env.finder (set row c p) ≡ o → (h : Hit) × (first_hit env row c (ps ++ q ∷ []) ≡ some h)
          → (h : Hit) × (first_hit env row c ((p ∷ ps) ++ q ∷ []) ≡ some h)
      go none g ih = (ih.0, rw g ih.1)
      go (some t) g ih = (record { at = p; signal = t }, rw g)

  abbrev pub row : State → Row
  row st = env.rows st.signal

  abbrev pub here : State → ℕ → Parts
  here st c = get_or (env.rows st.signal) c []

  -- what a step that takes a URN does
  pub record Moved (st : State) (u : Urn) : Type 0 where
    pub hit : Hit
    pub got : env.finder (set (row st) u.cat hit.at) ≡ some hit.signal
    pub up : Above (here st u.cat) hit.at
    pub down : Above hit.at u.path
    pub result : step env st u ≡ move env st u.cat u.path (some hit)

  pub step-view : (st : State) (u : Urn) → (step env st u ≡ st) ⊎ Moved st u
  unfolding step
  step-view st u = go (takes_urn (get_or st.status u.cat Open) (here st u.cat) u.path) refl (below (here st u.cat) u.path) refl
    where
      moves : (r : Parts) → here st u.cat ++ r ≡ u.path → (o : Option Hit) → first_hit env (row st) u.cat (candidates (here st u.cat) r) ≡ o
          → step env st u ≡ move env st u.cat u.path o → (step env st u ≡ st) ⊎ Moved st u
      moves r b none f e = inl e
      moves r b (some h) f e =
          let k = search-hit (row st) u.cat (candidates (here st u.cat) r) h f in
          let w = between (here st u.cat) r h.at k.1 in
          inr record { hit = h; got = k.0; up = w.0; down = rw b at w.1; result = e }

      go : (t : Bool) → takes_urn (get_or st.status u.cat Open) (here st u.cat) u.path ≡ t
          → (o : Option Parts) → below (here st u.cat) u.path ≡ o → (step env st u ≡ st) ⊎ Moved st u
      go false e o b = inl (rw e)
      go true e none b = inl (rw (e, b))
      go true e (some r) b = moves r (below-to (here st u.cat) u.path r b)
          (first_hit env (row st) u.cat (candidates (here st u.cat) r)) refl (rw (e, b))

  module _ (sound : (r : Row) (s : ℕ) → env.finder r ≡ some s → env.rows s ≡ r) where
    -- the current signal is what the finder finds at its own places
    abbrev pub Live : State → Type 0
    Live st = env.finder (env.rows st.signal) ≡ some st.signal

    abbrev pub next : State → Urn → State
    next = step env

    -- the places after a step that takes a URN
    pub moved_row : (st : State) (u : Urn) (m : Moved st u) → row (next st u) ≡ set (row st) u.cat m.hit.at
    moved_row st u m = ap row m.result ∙ sound _ _ m.got

    pub live-step : (st : State) (u : Urn) → Live st → Live (next st u)
    live-step st u l = go (step-view st u)
      where
        go : (next st u ≡ st) ⊎ Moved st u → Live (next st u)
        go (inl e) = rw e l
        go (inr m) = rw (m.result, sound _ _ m.got) m.got

    -- each category's place stays or grows, and only towards the URN
    pub place-step : (st : State) (u : Urn) (c : ℕ)
        → (here (next st u) c ≡ here st c) ⊎ ((c ≡ u.cat) × Above (here st c) (here (next st u) c) × Above (here (next st u) c) u.path)
    place-step st u c = go (step-view st u)
      where
        at : (m : Moved st u) → ((c ≡ u.cat) × (get_or (set (row st) u.cat m.hit.at) c [] ≡ m.hit.at))
            ⊎ (get_or (set (row st) u.cat m.hit.at) c [] ≡ here st c)
            → (here (next st u) c ≡ here st c) ⊎ ((c ≡ u.cat) × Above (here st c) (here (next st u) c) × Above (here (next st u) c) u.path)
        at m (inl k) = inr (k.0, rw (moved_row st u m, k.1, k.0) m.up, rw (moved_row st u m, k.1) m.down)
        at m (inr k) = inl (rw (moved_row st u m) k)

        go : (next st u ≡ st) ⊎ Moved st u → (here (next st u) c ≡ here st c) ⊎ ((c ≡ u.cat) × Above (here st c) (here (next st u) c)
            × Above (here (next st u) c) u.path)
        go (inl e) = inl (rw e)
        go (inr m) = at m (get_d-set-cases (row st) u.cat c m.hit.at [])

    pub grows-step : (st : State) (u : Urn) (c : ℕ) → Above (here st c) (here (next st u) c)
    grows-step st u c = go (place-step st u c)
      where
        go : (here (next st u) c ≡ here st c) ⊎ ((c ≡ u.cat) × Above (here st c) (here (next st u) c)
            × Above (here (next st u) c) u.path) → Above (here st c) (here (next st u) c)
        go (inl e) = rw e (above-self (here st c))
        go (inr k) = k.1

    abbrev pub run : State → List Urn → State
    run = foldl next

    pub live-run : (st : State) (us : List Urn) → Live st → Live (run st us)
    live-run st [] l = l
    live-run st (u ∷ us) l = live-run (next st u) us (live-step st u l)

    -- a place, once reached, stays a place's ancestor
    pub grows : (st : State) (us : List Urn) (c : ℕ) → Above (here st c) (here (run st us) c)
    grows st [] c = above-self (here st c)
    grows st (u ∷ us) c = above-trans (grows-step st u c) (grows (next st u) us c)

    -- a place is where it was, or a given URN or its ancestor
    pub only-given : (st : State) (us : List Urn) (c : ℕ) → (here (run st us) c ≡ here st c) ⊎ Given us c (here (run st us) c)
    only-given st [] c = inl refl
    only-given st (u ∷ us) c = go (only-given (next st u) us c) (place-step st u c)
      where
        Next : Type 0
        Next = (here (next st u) c ≡ here st c) ⊎ ((c ≡ u.cat) × Above (here st c) (here (next st u) c) × Above (here (next st u) c) u.path)

        go : (here (run (next st u) us) c ≡ here (next st u) c) ⊎ Given us c (here (run (next st u) us) c) → Next
            → (here (run st (u ∷ us)) c ≡ here st c) ⊎ Given (u ∷ us) c (here (run st (u ∷ us)) c)
        go (inr g) k = inr record { by = g.by; listed = Memᴰ.tail g.listed; cat = g.cat; above = g.above }
        go (inl e) (inl k) = inl (e ∙ k)
        go (inl e) (inr k) = inr record { by = u; listed = Memᴰ.head refl; cat = sym k.0; above = rw e k.2 }

    -- a step that finds the places that were there keeps the signal
    pub same-signal : (st : State) (u : Urn) → Live st → (m : Moved st u) → set (row st) u.cat m.hit.at ≡ row st → (next st u).signal ≡ st.signal
    same-signal st u l m e =
        let a : env.finder (row st) ≡ some m.hit.signal = rw e at m.got in
        let b : m.hit.signal ≡ st.signal = cc in
        ap (λ x. x.signal) m.result ∙ b

    total-step : (st : State) (u : Urn) → Live st → changed (eqb (next st u).signal st.signal) + total (row st) ≤ total (row (next st u))
    total-step st u l = go (step-view st u)
      where
        kept : (next st u).signal ≡ st.signal → changed (eqb (next st u).signal st.signal) + total (row st) ≤ total (row (next st u))
        kept e = rw (e, eq-eqb st.signal st.signal refl) (omega arith)

        at_most : (b : Bool) → changed b ≤ 1
        at_most true = omega arith
        at_most false = omega arith

        longer-by : (m : Moved st u) (e : Parts) → here st u.cat ++ e ≡ m.hit.at
            → changed (eqb (next st u).signal st.signal) + total (row st) ≤ total (row (next st u))
        longer-by m [] j = kept (same-signal st u l m (rw (← j, append-nil) (set-get_or (row st) u.cat [])))
        longer-by m (x ∷ e) j = by (total-grows (row st) u.cat x e)
          where
            by : (set (row st) u.cat (here st u.cat ++ x ∷ e) ≡ row st) ⊎ (total (row st) < total (set (row st) u.cat (here st u.cat ++ x ∷ e)))
                → changed (eqb (next st u).signal st.signal) + total (row st) ≤ total (row (next st u))
            by (inl h) = kept (same-signal st u l m (rw (← j) h))
            by (inr h) =
                let k : total (row st) < total (row (next st u)) = rw (moved_row st u m, ← j) h in
                omega (arith, at_most (eqb (next st u).signal st.signal))

        go : (next st u ≡ st) ⊎ Moved st u → changed (eqb (next st u).signal st.signal) + total (row st) ≤ total (row (next st u))
        go (inl e) = kept (ap (λ x. x.signal) e)
        go (inr m) = longer-by m m.up.rest m.up.joined

    -- each change makes the signal say more parts
    pub changes-bound : (st : State) (us : List Urn) → Live st → changes (λ x. x.signal) next st us + total (row st) ≤ total (row (run st us))
    changes-bound st [] l = omega arith
    changes-bound st (u ∷ us) l = omega (arith, total-step st u l, changes-bound (next st u) us (live-step st u l))

-- changes over what a function gives for a list
pub changes-map : {S A B : Type 0} (signal_of : S → ℕ) (next : S → B → S) (g : A → B) (s : S) (l : List A)
    → changes signal_of next s (map g l) ≡ changes signal_of (λ x a. next x (g a)) s l
changes-map signal_of next g s [] = refl
changes-map signal_of next g s (a ∷ l) = ap (λ n. changed (eqb (signal_of (next s (g a))) (signal_of s)) + n) (changes-map signal_of next g (next s (g a)) l)
