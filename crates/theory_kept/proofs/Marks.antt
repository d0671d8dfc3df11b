-- Direct resolution and the steps from signal to signal by marks: each list of URNs rings what no more marks lead to, and
-- marks that lead from signal to signal ring the last of them.
use Prim.Native.Nat.{ℕ, ◌≤◌, ◌<◌}
use mathlib.Core.Path.{◌≡◌, refl, sym, ap, ◌∙◌}
use mathlib.Core.Logic.{◌⊎◌, inl, inr, ◌≢◌}
use mathlib.Core.Bool.{Bool, true, false, cond, true≢false, false≢true, and-eq-true_iff}
use mathlib.Core.Option.{Option, none, some}
use mathlib.Core.List.Memᴰ
use mathlib.Core.List.{List, [], ◌∷◌, ◌++◌, foldl, append-nil, append_assoc, Memᴰ}
use lib.ListN.{get_or, set, length, replicate, length-append, get_or-replicate}
use lib.Seq.{set-get_or, set_out, get_or-set_same}
use native.Mathlib.Omega.{arith}
use native.Mathlib.Decide.{ℕ_discrete, dec_lt}
use Rattle.theory_resolution.specs.Names.{Name, Parts, same_parts, proper_ancestor, Above, longer, candidates}
use Rattle.theory_resolution.specs.Table.{Urn, urn, Table, Row, row_of}
use Rattle.theory_resolution.specs.Nodes.{nodes, node_at, is_node, RootOrNode, is_inner}
use Rattle.theory_resolution.specs.Direct.{Status, Open, Held, Shut, State, Env, env_by, Hit, first_hit, held_if, open_or, takes_urn, move, step, status_fits}
use Rattle.theory_resolution.proofs.Names.{parts-exact, above-trans, longer-first, proper-to, proper-of, proper-above}
use Rattle.theory_resolution.proofs.Table.{row-length}
use Rattle.theory_resolution.proofs.Numbers.{number-node, ancestor-node}
use Rattle.theory_resolution.proofs.Deepest.{inner_of}
use Rattle.theory_resolution.proofs.Direct.{search-hit, search-last, Moved, step-view, moved_row, place-step, same-signal}
use Rattle.theory_resolution.proofs.Meaning.{search-longest}
use Rattle.theory_resolution.proofs.Step.{EnvLaws, Valid, valid-step, hit-node, step-takes, status-other}
use Rattle.theory_kept.specs.Decision.{or_else, step_mark}
use Rattle.theory_kept.proofs.Paths.{proper-past, takes-under}

-- what is an ancestor of a mark that may be given may be given too
abbrev pub Down : (Urn → Bool) → Type 0
Down may = (c : ℕ) (p q : Parts) → Above q p → may (urn c p) ≡ true → may (urn c q) ≡ true

module _ (t : Table) (finder : Row → Option ℕ) (laws : EnvLaws (env_by t finder) t.cats (nodes t)) where
  abbrev env : Env
  env = env_by t finder

  abbrev pub run : State → List Urn → State
  run = foldl (step env)

  pub valid-run : (st : State) (us : List Urn) → Valid env t.cats (nodes t) st → Valid env t.cats (nodes t) (run st us)
  valid-run st [] g = g
  valid-run st (u ∷ us) g = valid-run (step env st u) us (valid-step env t.cats (nodes t) laws st u g)

  module _ (may : Urn → Bool) (down : Down may) where
    -- a URN leaves the signal, or leads where a mark leads
    step-mark : (st : State) → Valid env t.cats (nodes t) st → (u : Urn) → u.cat < t.cats → may u ≡ true
        → ((step env st u).signal ≡ st.signal) ⊎ ((k : ℕ) × (k < length (nodes t)) × (step_mark t env may st.signal k ≡ (step env st u).signal))
    step-mark st g u known ok = go (step-view env st u)
      where
        Goal : Type 0
        Goal = ((step env st u).signal ≡ st.signal) ⊎ ((k : ℕ) × (k < length (nodes t)) × (step_mark t env may st.signal k ≡ (step env st u).signal))

        q : Parts
        q = get_or (row_of t st.signal) u.cat []

        further : (m : Moved env st u) (x : Name) (e : Parts) → q ++ x ∷ e ≡ m.hit.at → RootOrNode (nodes t) u.cat m.hit.at → Goal
        further m x e j (inl z) = absurd (omega (arith, length-append q (x ∷ e), ap length (j ∙ z)))
        further m x e j (inr n) =
            let w = number-node (nodes t) u.cat m.hit.at n in
            let a : may (node_at (nodes t) w.0) ≡ true = ap may w.3 ∙ down u.cat u.path m.hit.at m.down ok in
            inr (w.0, w.1, rw (a, w.3, proper-of q m.hit.at x e j, m.got, m.result))

        by : (m : Moved env st u) (r : Parts) → q ++ r ≡ m.hit.at → Goal
        by m [] j = inl (same-signal env laws.sound st u g.live m (rw (← j, append-nil) (set-get_or (row_of t st.signal) u.cat [])))
        by m (x ∷ e) j = further m x e j (hit-node env t.cats (nodes t) laws (row_of t st.signal) u.cat m.hit.at
            m.hit.signal (rw g.wide known) m.got)

        go : (step env st u ≡ st) ⊎ Moved env st u → Goal
        go (inl e) = inl (ap (λ s. s.signal) e)
        go (inr m) = by m m.up.rest m.up.joined

    -- what a list of URNs rings, no more marks lead to
    pub marks-of : (st : State) → Valid env t.cats (nodes t) st → (us : List Urn) → ((u : Urn) → Memᴰ u us → (u.cat < t.cats) × (may u ≡ true))
        → (ks : List ℕ) × ((k : ℕ) → Memᴰ k ks → k < length (nodes t)) × (length ks ≤ length us)
        × (foldl (step_mark t env may) st.signal ks ≡ (run st us).signal)
    marks-of st g [] h = ([], λ k m. absurd (Memᴰ.not-nil m), omega arith, refl)
    marks-of st g (u ∷ us) h =
        go (step-mark st g u (h u (Memᴰ.head refl)).0 (h u (Memᴰ.head refl)).1)
        (marks-of (step env st u) (valid-step env t.cats (nodes t) laws st u g) us (λ v m. h v (Memᴰ.tail m)))
      where
        go : ((step env st u).signal ≡ st.signal) ⊎ ((k : ℕ) × (k < length (nodes t)) × (step_mark t env may st.signal k ≡ (step env st u).signal))
            → (ks : List ℕ) × ((k : ℕ) → Memᴰ k ks → k < length (nodes t)) × (length ks ≤ length us)
            × (foldl (step_mark t env may) (step env st u).signal ks ≡ (run (step env st u) us).signal)
            → (ks : List ℕ) × ((k : ℕ) → Memᴰ k ks → k < length (nodes t)) × (length ks ≤ length (u ∷ us))
            × (foldl (step_mark t env may) st.signal ks ≡ (run st (u ∷ us)).signal)
        go (inl e) ih = (ih.0, ih.1, omega (arith, ih.2), ap (λ s. foldl (step_mark t env may) s ih.0) (sym e) ∙ ih.3)
        go (inr w) ih =
            (w.0 ∷ ih.0, λ k m. in-cons k (Memᴰ.cases_cons m), omega (arith, ih.2), ap (λ s. foldl (step_mark t env may) s ih.0) w.2 ∙ ih.3)
          where
            in-cons : (k : ℕ) → (k ≡ w.0) ⊎ Memᴰ k ih.0 → k < length (nodes t)
            in-cons k (inl e) = rw e w.1
            in-cons k (inr m) = ih.1 k m

  -- signal s, with every category open
  abbrev pub open_at : ℕ → State
  open_at s = record { signal = s; status = replicate t.cats Open }

  abbrev pub Live : ℕ → Type 0
  Live s = finder (row_of t s) ≡ some s

  -- a mark that leads to another signal
  pub record Led (may : Urn → Bool) (s k : ℕ) : Type 0 where
    pub allowed : may (node_at (nodes t) k) ≡ true
    pub known : (node_at (nodes t) k).cat < t.cats
    pub some-part : (node_at (nodes t) k).path ≢ []
    pub steps : step env (open_at s) (node_at (nodes t) k) ≡ open_at (step_mark t env may s k)

  pub led : (may : Urn → Bool) (s k : ℕ) → Live s → step_mark t env may s k ≢ s → Led may s k
  led may s k live moves = by (may u) refl (proper_ancestor q u.path) refl (finder (set (row_of t s) u.cat u.path)) refl
    where
      u : Urn
      u = node_at (nodes t) k

      q : Parts
      q = get_or (row_of t s) u.cat []

      by : (b : Bool) → may u ≡ b → (d : Bool) → proper_ancestor q u.path ≡ d → (o : Option ℕ) → finder (set (row_of t s) u.cat u.path) ≡ o → Led may s k
      by false a d b o f = absurd (moves (rw a))
      by true a false b o f = absurd (moves (rw (a, b)))
      by true a true b none f = absurd (moves (rw (a, b, f)))
      by true a true b (some s') f =
          record {
            allowed = a;
            known = known (dec_lt u.cat t.cats);
            some-part = λ e. let v = proper-to q u.path b in omega (arith, length-append q (v.0 ∷ v.1), ap length (v.2 ∙ e));
            steps = rw (a, b, f) (moved (proper-to q u.path b));
          }
        where
          known : Dec (u.cat < t.cats) → u.cat < t.cats
          known (yes h) = h
          known (no h) =
              let e : finder (row_of t s) ≡ some s' =
              ap finder (sym (set_out (row_of t s) u.cat u.path (omega (arith, row-length (get_or t.signals s []) 0 t.cats)))) ∙ f in
              let z : s' ≡ s = cc in
              absurd (moves (rw (a, b, f) z))

          moved : (x : Name) × (r : Parts) × (q ++ x ∷ r ≡ u.path) → step env (open_at s) u ≡ open_at s'
          moved v =
              step-takes env (open_at s) u (v.0 ∷ v.1) takes v.2
              ∙ ap (move env (open_at s) u.cat u.path) hit
              ∙ ap after (ap (λ b. open_or b (held_if (is_inner (nodes t) u.cat u.path) u.path)) (parts-exact.self u.path))
              ∙ opened
            where
              after : Status → State
              after o = record { signal = s'; status = set (replicate t.cats Open) u.cat o }

              status : get_or (replicate t.cats Open) u.cat Open ≡ Open
              status = get_or-replicate t.cats u.cat Open Open (known (dec_lt u.cat t.cats))

              takes : takes_urn (get_or (replicate t.cats Open) u.cat Open) q u.path ≡ true
              takes = ap (λ o. takes_urn o q u.path) status ∙ b

              first : (l : List Parts) × (longer q (v.0 ∷ v.1) ≡ (q ++ v.0 ∷ v.1) ∷ l)
              first = longer-first q v.0 v.1

              hit : first_hit env (row_of t s) u.cat (candidates q (v.0 ∷ v.1)) ≡ some (record { at = u.path; signal = s' })
              hit = rw (first.1, v.2, f)

              opened : after Open ≡ open_at s'
              opened = ap (λ l. record { signal = s'; status = l }) (ap (set (replicate t.cats Open) u.cat) (sym status)
                  ∙ set-get_or (replicate t.cats Open) u.cat Open)

  -- every step by a mark leads to a signal that the search finds
  pub live-mark : (may : Urn → Bool) (s k : ℕ) → Live s → Live (step_mark t env may s k)
  live-mark may s k live = by (may u) (proper_ancestor (get_or (row_of t s) u.cat []) u.path) (finder (set (row_of t s) u.cat u.path)) refl
    where
      u : Urn
      u = node_at (nodes t) k

      by : (b d : Bool) (o : Option ℕ) → finder (set (row_of t s) u.cat u.path) ≡ o → Live (cond b (cond d (or_else s o) s) s)
      by false d o f = live
      by true false o f = live
      by true true none f = live
      by true true (some r) f = rw (laws.sound (set (row_of t s) u.cat u.path) r f) f

  -- the category of a mark takes it, as long as the URNs given there are proper ancestors of it
  module _ (c : ℕ) (p : Parts) (node : is_node (nodes t) c p ≡ true) where
    abbrev pub Takes : State → Type 0
    Takes st = takes_urn (get_or st.status c Open) (get_or (row_of t st.signal) c []) p ≡ true

    takes_step : (st : State) → Valid env t.cats (nodes t) st → (u : Urn) → u.cat < t.cats → u.path ≢ []
        → (u.cat ≡ c → proper_ancestor u.path p ≡ true)
        → Takes st → Takes (step env st u)
    takes_step st g u known some-part above h = go (ℕ_discrete c u.cat)
      where
        after : (at : Parts) → Above at u.path → proper_ancestor u.path p ≡ true → (b : Bool) → same_parts at u.path ≡ b
            → (i : Bool) → is_inner (nodes t) c u.path ≡ i
            → takes_urn (open_or b (held_if i u.path)) at p ≡ true
        after at a k true e i m = ap (λ z. proper_ancestor z p) (parts-exact.to at u.path e) ∙ k
        after at a k false e true m = k
        after at a k false e false m = absurd (true≢false (sym (inner (ancestor-node t c u.path p over (inr node))) ∙ m))
          where
            v : (x : Name) × (r : Parts) × (u.path ++ x ∷ r ≡ p)
            v = proper-to u.path p k

            over : Above u.path p
            over = record { rest = v.0 ∷ v.1; joined = v.2 }

            inner : RootOrNode (nodes t) c u.path → is_inner (nodes t) c u.path ≡ true
            inner (inl z) = absurd (some-part z)
            inner (inr n) = inner_of (nodes t) c u.path n v.0 v.1 (rw v.2 node)

        same : c ≢ u.cat → Takes (step env st u)
        same n = rw (status-other env st u c n) (place (place-step env laws.sound st u c))
          where
            place : (get_or (row_of t (step env st u).signal) c [] ≡ get_or (row_of t st.signal) c [])
                ⊎ ((c ≡ u.cat) × Above (get_or (row_of t st.signal) c []) (get_or (row_of t (step env st u).signal) c [])
                × Above (get_or (row_of t (step env st u).signal) c []) u.path)
                → takes_urn (get_or st.status c Open) (get_or (row_of t (step env st u).signal) c []) p ≡ true
            place (inl e) = rw e h
            place (inr k) = absurd (n k.0)

        here : c ≡ u.cat → (step env st u ≡ st) ⊎ Moved env st u → Takes (step env st u)
        here e (inl k) = rw k h
        here e (inr m) = rw (status, place) (after m.hit.at m.down (above (sym e)) (same_parts m.hit.at u.path) refl
            (is_inner (nodes t) c u.path) refl)
          where
            next : Status
            next = open_or (same_parts m.hit.at u.path) (held_if (is_inner (nodes t) u.cat u.path) u.path)

            status : get_or (step env st u).status c Open ≡ open_or (same_parts m.hit.at u.path) (held_if (is_inner (nodes t) c u.path) u.path)
            status =
                ap (λ s. get_or s.status c Open) m.result
                ∙ ap (λ k. get_or (set st.status u.cat next) k Open) e
                ∙ get_or-set_same st.status u.cat next Open (rw g.sized known)
                ∙ ap (λ k. open_or (same_parts m.hit.at u.path) (held_if (is_inner (nodes t) k u.path) u.path)) (sym e)

            place : get_or (row_of t (step env st u).signal) c [] ≡ m.hit.at
            place =
                ap (λ r. get_or r c []) (moved_row env laws.sound st u m)
                ∙ ap (λ k. get_or (set (row_of t st.signal) u.cat m.hit.at) k []) e
                ∙ get_or-set_same (row_of t st.signal) u.cat m.hit.at [] (rw g.wide known)

        go : Dec (c ≡ u.cat) → Takes (step env st u)
        go (no n) = same n
        go (yes e) = here e (step-view env st u)

    -- URNs that are used, and of which those of category c are proper ancestors of p
    abbrev pub OnWay : List Urn → Type 0
    OnWay us = (u : Urn) → Memᴰ u us → (u.cat < t.cats) × (u.path ≢ []) × (u.cat ≡ c → proper_ancestor u.path p ≡ true)

    pub takes_run : (st : State) → Valid env t.cats (nodes t) st → (us : List Urn) → OnWay us → Takes st → Takes (run st us)
    takes_run st g [] w h = h
    takes_run st g (u ∷ us) w h =
        let k = w u (Memᴰ.head refl) in
        takes_run (step env st u) (valid-step env t.cats (nodes t) laws st u g) us (λ v m. w v (Memᴰ.tail m)) (takes_step st g u k.0 k.1 k.2 h)

    -- where a category takes p, its place is a proper ancestor of p
    takes-proper : (o : Status) (q : Parts) → status_fits (nodes t) c q o ≡ true → takes_urn o q p ≡ true → proper_ancestor q p ≡ true
    takes-proper Open q f h = h
    takes-proper (Held w) q f h = proper-past q w p ((and-eq-true_iff (proper_ancestor q w) (is_inner (nodes t) c w)).0 f).0 (proper-above w p h)
    takes-proper Shut q f h = absurd (false≢true h)

    -- where it takes p, and a signal says p besides the current one's places, p or what is under it leads to a signal that says p
    pub said_at : (st : State) → Valid env t.cats (nodes t) st → c < t.cats → Takes st → (s : ℕ) → finder (set (row_of t st.signal) c p) ≡ some s
        → (u : Parts) → Above p u → Above p (get_or (row_of t (step env st (urn c u)).signal) c [])
    said_at st g known h s f u a = by (proper-to q p (takes-proper (get_or st.status c Open) q (g.fits c known) h))
      where
        row : Row
        row = row_of t st.signal

        q : Parts
        q = get_or row c []

        by : (x : Name) × (d : Parts) × (q ++ x ∷ d ≡ p) → Above p (get_or (row_of t (step env st (urn c u)).signal) c [])
        by v = rw place (search-longest env row c q rest p s (record { rest = v.0 ∷ v.1; joined = v.2 }) (rw joined a) f hh.0 hh.1)
          where
            rest : Parts
            rest = v.0 ∷ v.1 ++ a.rest

            joined : q ++ rest ≡ u
            joined = sym (append_assoc q (v.0 ∷ v.1) a.rest) ∙ ap (λ z. z ++ a.rest) v.2 ∙ a.joined

            hh : (k : Hit) × (first_hit env row c (candidates q rest) ≡ some k)
            hh = search-last env row c (longer q rest) q st.signal (rw (set-get_or row c []) g.live)

            moved : step env st (urn c u) ≡ move env st c u (some hh.0)
            moved = step-takes env st (urn c u) rest (takes-under (get_or st.status c Open) q p u h a) joined ∙ ap (move env st c u) hh.1

            place : get_or (row_of t (step env st (urn c u)).signal) c [] ≡ hh.0.at
            place =
                ap (λ z. get_or (row_of t z.signal) c []) moved
                ∙ ap (λ r. get_or r c []) (laws.sound (set row c hh.0.at) hh.0.signal (search-hit env row c (candidates q rest) hh.0 hh.1).0)
                ∙ get_or-set_same row c hh.0.at [] (rw g.wide known)

  -- a category's place stays above p, as long as the URNs given there are above p
  pub above-run : (c : ℕ) (p : Parts) (st : State) (us : List Urn) → ((u : Urn) → Memᴰ u us → u.cat ≡ c → Above u.path p)
      → Above (get_or (row_of t st.signal) c []) p
      → Above (get_or (row_of t (run st us).signal) c []) p
  above-run c p st [] w a = a
  above-run c p st (u ∷ us) w a = above-run c p (step env st u) us (λ v m. w v (Memᴰ.tail m)) (go (place-step env laws.sound st u c))
    where
      go : (get_or (row_of t (step env st u).signal) c [] ≡ get_or (row_of t st.signal) c [])
          ⊎ ((c ≡ u.cat) × Above (get_or (row_of t st.signal) c []) (get_or (row_of t (step env st u).signal) c [])
          × Above (get_or (row_of t (step env st u).signal) c []) u.path)
          → Above (get_or (row_of t (step env st u).signal) c []) p
      go (inl e) = rw e a
      go (inr k) = above-trans k.2 (w u (Memᴰ.head refl) (sym k.0))

  -- the places after a step are those before it, but for the URN's category
  pub row_step : (st : State) (u : Urn) → u.cat < t.cats → row_of t (step env st u).signal
      ≡ set (row_of t st.signal) u.cat (get_or (row_of t (step env st u).signal) u.cat [])
  row_step st u known = go (step-view env st u)
    where
      go : (step env st u ≡ st) ⊎ Moved env st u → row_of t (step env st u).signal
          ≡ set (row_of t st.signal) u.cat (get_or (row_of t (step env st u).signal) u.cat [])
      go (inl e) = rw e (sym (set-get_or (row_of t st.signal) u.cat []))
      go (inr m) =
          rw (
            moved_row env laws.sound st u m,
            get_or-set_same (row_of t st.signal) u.cat m.hit.at [] (rw (row-length (get_or t.signals st.signal []) 0 t.cats) known),
          )
