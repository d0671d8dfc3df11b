-- The laws of specs/Meaning.antt, proved.
use Prim.Native.Nat.{ℕ, ◌+◌, ◌≤◌, ◌<◌, max}
use mathlib.Core.Path.{◌≡◌, refl, sym, ap, ◌∙◌}
use mathlib.Core.Logic.{◌⊎◌, inl, inr, ◌≢◌}
use mathlib.Core.Bool.{Bool, true, false, ◌&&◌, true≢false, and-eq-true_iff}
use mathlib.Core.Option.{Option, none, some}
use mathlib.Core.List.Memᴰ
use mathlib.Core.List.{List, [], ◌∷◌, ◌++◌, foldl-append, append_assoc, append-nil, Memᴰ}
use lib.Dec.{eqb}
use borrow.Author.Tests.{eqb-true, eq-eqb, ne_eqb}
use lib.ListN.{length, get_or, set, length-replicate, get_or-replicate}
use lib.Seq.{set-get_or}
use native.Mathlib.Omega.{arith}
use native.Mathlib.Decide.{dec_lt}
use Rattle.theory_resolution.specs.Names.{Name, Parts, same_parts, proper_ancestor, Above, longer, candidates}
use Rattle.theory_resolution.specs.Table.{Urn, urn, Table, Row, place_in, place, row_of, find, parts_of, most_parts}
use Rattle.theory_resolution.specs.Nodes.{nodes, is_inner}
use Rattle.theory_resolution.specs.Direct.{Status, Open, Held, Shut, State, start, Env, env_of, Hit, first_hit, takes_urn, held_if, open_or, move}
use Rattle.theory_resolution.specs.Direct.{step, status_fits, StateOf}
use Rattle.theory_resolution.specs.Says.{Says, Given}
use Rattle.theory_resolution.specs.Meaning.{UrisLaw, AskedLaw, Once, PlaceLaw, PartsLaw, ChangesLaw, GivenLaw, SaysLaw, Taken, StepLaw, RunLaw}
use Rattle.theory_resolution.proofs.Names.{parts-exact, between, longer-append, longer-first, proper-to, proper-of}
use Rattle.theory_resolution.proofs.Table.{find-sound, find-below, find-row, row-place, row-length}
use Rattle.theory_resolution.proofs.Direct.{search-hit, search-last}
use Rattle.theory_resolution.proofs.Nodes.{place-from}
use Rattle.theory_resolution.proofs.Deepest.{inner_of, inner-none}
use Rattle.theory_resolution.proofs.Step.{step-still, step-shut, step-takes}
use Rattle.theory_resolution.proofs.Claim.{used-append, counts-add}

pub uris-law : UrisLaw
uris-law = record { used-one = λ u. refl; skipped-one = refl; in_order = used-append; used-counted = λ l. refl; all-counted = counts-add }

pub asked-law : (t : Table) → AskedLaw t
asked-law t = record { of-table = λ a b c. record { some-signal = a; silent = b; named = c }; of-urn = λ u h n. record { known = h; some-part = n } }

pub place-law : (t : Table) (s : ℕ) → PlaceLaw t s
place-law t s = record { named = named; unnamed = λ c n. from-none c n (place-from sig c); row-length = row-length sig 0 t.cats; row-place = row-place t s }
  where
    sig : List Urn
    sig = get_or t.signals s []

    first : (l : List Urn) (u : Urn) → Memᴰ u l → (v : Urn) × Memᴰ v l × (v.cat ≡ u.cat) × (place_in l u.cat ≡ v.path)
    first [] u m = absurd (Memᴰ.not-nil m)
    first (w ∷ l) u m = go (eqb w.cat u.cat) refl (Memᴰ.cases_cons m) (λ k. first l u k)
      where
        go : (b : Bool) → eqb w.cat u.cat ≡ b → (u ≡ w) ⊎ Memᴰ u l
            → (Memᴰ u l → (v : Urn) × Memᴰ v l × (v.cat ≡ u.cat) × (place_in l u.cat ≡ v.path))
            → (v : Urn) × Memᴰ v (w ∷ l) × (v.cat ≡ u.cat) × (place_in (w ∷ l) u.cat ≡ v.path)
        go true e k ih = (w, Memᴰ.head refl, eqb-true w.cat u.cat e, rw e)
        go false e (inl k) ih = absurd (true≢false (sym (eq-eqb w.cat u.cat (ap (λ x. x.cat) (sym k))) ∙ e))
        go false e (inr k) ih = let f = ih k in (f.0, Memᴰ.tail f.1, f.2, rw e f.3)

    named : Once sig → (u : Urn) → Memᴰ u sig → place t s u.cat ≡ u.path
    named once u m = let f = first sig u m in f.3 ∙ ap (λ x. x.path) (once f.0 u f.1 m f.2)

    from-none : (c : ℕ) → ((u : Urn) → Memᴰ u sig → u.cat ≢ c) → (place_in sig c ≡ [])
        ⊎ ((u : Urn) × Memᴰ u sig × (u.cat ≡ c) × (place_in sig c ≡ u.path)) → place_in sig c ≡ []
    from-none c n (inl e) = e
    from-none c n (inr k) = absurd (n k.0 k.1 k.2)

pub parts-law : PartsLaw
parts-law = record { no-urn = refl; one-urn = λ c p. one p; added = added; most = most; some-has-most = has-most }
  where
    one : (p : Parts) → length p + 0 ≡ length p
    one p = omega arith

    added : (k l : List Urn) → parts_of (k ++ l) ≡ parts_of k + parts_of l
    added [] l = omega arith
    added (u ∷ k) l = omega (arith, added k l)

    most : (sigs : List (List Urn)) (sig : List Urn) → Memᴰ sig sigs → parts_of sig ≤ most_parts sigs
    most [] sig m = absurd (Memᴰ.not-nil m)
    most (x ∷ sigs) sig m = go (Memᴰ.cases_cons m) (λ k. most sigs sig k)
      where
        go : (sig ≡ x) ⊎ Memᴰ sig sigs → (Memᴰ sig sigs → parts_of sig ≤ most_parts sigs) → parts_of sig ≤ max (parts_of x) (most_parts sigs)
        go (inl e) ih = rw e (omega arith)
        go (inr k) ih = omega (arith, ih k)

    has-most : (sig : List Urn) (sigs : List (List Urn)) → (best : List Urn) × Memᴰ best (sig ∷ sigs) × (parts_of best ≡ most_parts (sig ∷ sigs))
    has-most sig [] = (sig, Memᴰ.head refl, omega arith)
    has-most sig (x ∷ sigs) = go (has-most x sigs) (dec_lt (parts_of sig) (most_parts (x ∷ sigs)))
      where
        go : (best : List Urn) × Memᴰ best (x ∷ sigs) × (parts_of best ≡ most_parts (x ∷ sigs)) → Dec (parts_of sig < most_parts (x ∷ sigs))
            → (best : List Urn) × Memᴰ best (sig ∷ x ∷ sigs) × (parts_of best ≡ most_parts (sig ∷ x ∷ sigs))
        go b (yes h) = (b.0, Memᴰ.tail b.1, omega (arith, b.2))
        go b (no h) = (sig, Memᴰ.head refl, omega arith)

pub changes-law : {S A : Type 0} (signal_of : S → ℕ) (next : S → A → S) (s : S) → ChangesLaw signal_of next s
changes-law signal_of next s =
    record {
      no-element = refl;
      same-signal = λ a l e. rw (eq-eqb (signal_of (next s a)) (signal_of s) e) (omega arith);
      other-signal = λ a l n. rw (ne_eqb (signal_of (next s a)) (signal_of s) n) (omega arith);
    }

pub given-law : (c : ℕ) (p : Parts) → GivenLaw c p
given-law c p = record { by-none = λ g. Memᴰ.not-nil g.listed; by_one = λ d q. (one d q, only d q); by-either = λ us vs. (split us vs, join us vs) }
  where
    one : (d : ℕ) (q : Parts) → Given (urn d q ∷ []) c p → (d ≡ c) × Above p q
    one d q g = let e = Memᴰ.eq_of_singleton g.listed in (sym (ap (λ u. u.cat) e) ∙ g.cat, rw e at g.above)

    only : (d : ℕ) (q : Parts) → (d ≡ c) × Above p q → Given (urn d q ∷ []) c p
    only d q h = record { by = urn d q; listed = Memᴰ.head refl; cat = h.0; above = h.1 }

    split : (us vs : List Urn) → Given (us ++ vs) c p → Given us c p ⊎ Given vs c p
    split us vs g = at (Memᴰ.append_cases us g.listed)
      where
        at : Memᴰ g.by us ⊎ Memᴰ g.by vs → Given us c p ⊎ Given vs c p
        at (inl m) = inl record { by = g.by; listed = m; cat = g.cat; above = g.above }
        at (inr m) = inr record { by = g.by; listed = m; cat = g.cat; above = g.above }

    join : (us vs : List Urn) → Given us c p ⊎ Given vs c p → Given (us ++ vs) c p
    join us vs (inl g) = record { by = g.by; listed = Memᴰ.append_left vs g.listed; cat = g.cat; above = g.above }
    join us vs (inr g) = record { by = g.by; listed = Memᴰ.append_right us g.listed; cat = g.cat; above = g.above }

pub says-law : (t : Table) (s c : ℕ) (p : Parts) → SaysLaw t s c p
says-law t s c p = record { only = λ h. (h.known, h.some-part, given (place-from (get_or t.signals s []) c) h); all_said = said }
  where
    given : (place t s c ≡ []) ⊎ ((u : Urn) × Memᴰ u (get_or t.signals s []) × (u.cat ≡ c) × (place t s c ≡ u.path)) → Says t s c p
        → Given (get_or t.signals s []) c p
    given (inl e) h = absurd (nothing p h.some-part h.above.rest (h.above.joined ∙ e))
      where
        nothing : (p : Parts) → p ≢ [] → (r : Parts) → p ++ r ≡ [] → ⊥
        nothing [] n r j = n refl
        nothing (x ∷ p) n r j = let z : ◌≡◌ {A = ℕ} 0 1 = cc in omega arith
    given (inr k) h = record { by = k.0; listed = k.1; cat = k.2; above = rw k.3 at h.above }

    said : Once (get_or t.signals s []) → c < t.cats → p ≢ [] → Given (get_or t.signals s []) c p → Says t s c p
    said once known some-part g =
        let e : place t s c ≡ g.by.path = ap (place t s) (sym g.cat) ∙ (place-law t s).named once g.by g.listed in
        record { known = known; some-part = some-part; above = rw e g.above }

-- the search stops at the first path that has a signal
search-stop : (env : Env) (row : Row) (c : ℕ) (ps : List Parts) (p : Parts) (qs : List Parts) (s : ℕ) → env.finder (set row c p) ≡ some s
    → (h : Hit) → first_hit env row c (ps ++ p ∷ qs) ≡ some h → Memᴰ h.at (ps ++ p ∷ [])
search-stop env row c [] p qs s f h e =
    let e' : some (record { at = p; signal = s }) ≡ some h = rw f at e in
    let e₁ : record { at = p; signal = s } ≡ h = cc in
    Memᴰ.head (sym (ap (λ x. x.at) e₁))
search-stop env row c (q ∷ ps) p qs s f h e = go (env.finder (set row c q)) refl (λ k. search-stop env row c ps p qs s f h k)
  where
    go : (o : Option ℕ) → env.finder (set row c q) ≡ o → (first_hit env row c (ps ++ p ∷ qs) ≡ some h → Memᴰ h.at (ps ++ p ∷ []))
        → Memᴰ h.at (q ∷ (ps ++ p ∷ []))
    go none g ih = Memᴰ.tail (ih (rw g at e))
    go (some r) g ih =
        let e' : some (record { at = q; signal = r }) ≡ some h = rw g at e in
        let e₁ : record { at = q; signal = r } ≡ h = cc in
        Memᴰ.head (sym (ap (λ x. x.at) e₁))

-- no candidate with a signal is longer than the one found
pub search-longest : (env : Env) (row : Row) (c : ℕ) (q r p : Parts) (s : ℕ) → Above q p → Above p (q ++ r) → env.finder (set row c p) ≡ some s
    → (h : Hit) → first_hit env row c (candidates q r) ≡ some h → Above p h.at
search-longest env row c q r p s a b f h e = by a.rest a.joined
  where
    by : (d : Parts) → q ++ d ≡ p → Above p h.at
    by [] j = rw (sym j ∙ append-nil q) at-q
      where
        at-q : Above q h.at
        at-q = (between q r h.at (search-hit env row c (candidates q r) h e).1).0
    by (x ∷ d) j = rw j at (between (q ++ x ∷ d) b.rest h.at hit).0
      where
        rest : x ∷ d ++ b.rest ≡ r
        rest = append-cancel q (x ∷ d ++ b.rest) r (sym (append_assoc q (x ∷ d) b.rest) ∙ ap (λ l. l ++ b.rest) j ∙ b.joined)
          where
            append-cancel : (q m n : Parts) → q ++ m ≡ q ++ n → m ≡ n
            append-cancel [] m n i = i
            append-cancel (y ∷ q) m n i = append-cancel q m n (cc)

        first : (l : List Parts) × (longer q (x ∷ d) ≡ (q ++ x ∷ d) ∷ l)
        first = longer-first q x d

        order : candidates q r ≡ longer (q ++ x ∷ d) b.rest ++ (q ++ x ∷ d) ∷ (first.0 ++ q ∷ [])
        order =
            ap (candidates q) (sym rest)
            ∙ ap (λ l. l ++ q ∷ []) (longer-append q (x ∷ d) b.rest ∙ ap (λ l. longer (q ++ x ∷ d) b.rest ++ l) first.1)
            ∙ append_assoc (longer (q ++ x ∷ d) b.rest) ((q ++ x ∷ d) ∷ first.0) (q ∷ [])

        hit : Memᴰ h.at (candidates (q ++ x ∷ d) b.rest)
        hit =
            search-stop env row c (longer (q ++ x ∷ d) b.rest) (q ++ x ∷ d) (first.0 ++ q ∷ []) s (ap (λ z. env.finder (set row c z)) j ∙ f) h
            (ap (first_hit env row c) (sym order) ∙ e)

pub step-law : (t : Table) (st : State) → StateOf t st → (u : Urn) → u.cat < t.cats → StepLaw t st u
step-law t st g u known =
    record {
      shut = step-shut (env_of t) st u;
      not-under = not-under;
      not_beyond = not_beyond;
      taken = λ o x r j. takes (ap (λ z. takes_urn z q u.path) o ∙ proper-of q u.path x r (from_place x r j)) x r (from_place x r j);
      taken-held = λ w o x r j.
          let k = past-held w o x r j in
          takes (ap (λ z. takes_urn z q u.path) o ∙ proper-of w u.path x r j) k.0 k.1 k.2;
    }
  where
    row : Row
    row = row_of t st.signal

    q : Parts
    q = get_or row u.cat []

    here : q ≡ place t st.signal u.cat
    here = row-place t st.signal u.cat known

    from_place : (x : Name) (r : Parts) → place t st.signal u.cat ++ x ∷ r ≡ u.path → q ++ x ∷ r ≡ u.path
    from_place x r j = ap (λ z. z ++ x ∷ r) here ∙ j

    -- what properly extends the path at which the category is held properly extends the place
    past-held : (w : Parts) → get_or st.status u.cat Open ≡ Held w → (x : Name) (r : Parts) → w ++ x ∷ r ≡ u.path → (y : Name)
        × (s : Parts) × (q ++ y ∷ s ≡ u.path)
    past-held w o x r j =
        let fits : proper_ancestor q w && is_inner (nodes t) u.cat w ≡ true = ap (status_fits (nodes t) u.cat q) (sym o) ∙ g.fits u.cat known in
        let k = proper-to q w ((and-eq-true_iff (proper_ancestor q w) (is_inner (nodes t) u.cat w)).0 fits).0 in
        (k.0, k.1 ++ x ∷ r, sym (append_assoc q (k.0 ∷ k.1) (x ∷ r)) ∙ ap (λ z. z ++ x ∷ r) k.2 ∙ j)

    not-under : ((x : Name) (r : Parts) → place t st.signal u.cat ++ x ∷ r ≢ u.path) → step (env_of t) st u ≡ st
    not-under n = go (takes_urn (get_or st.status u.cat Open) q u.path) refl (get_or st.status u.cat Open) refl
      where
        at_place : (x : Name) (r : Parts) → q ++ x ∷ r ≡ u.path → ⊥
        at_place x r j = n x r (ap (λ z. z ++ x ∷ r) (sym here) ∙ j)

        go : (b : Bool) → takes_urn (get_or st.status u.cat Open) q u.path ≡ b → (o : Status) → get_or st.status u.cat Open ≡ o
            → step (env_of t) st u ≡ st
        go false e o i = step-still (env_of t) st u e
        go true e Open i = let k = proper-to q u.path (ap (λ z. takes_urn z q u.path) (sym i) ∙ e) in absurd (at_place k.0 k.1 k.2)
        go true e (Held w) i =
            let k = proper-to w u.path (ap (λ z. takes_urn z q u.path) (sym i) ∙ e) in
            let m = past-held w i k.0 k.1 k.2 in
            absurd (at_place m.0 m.1 m.2)
        go true e Shut i = step-shut (env_of t) st u i

    not_beyond : (w : Parts) → get_or st.status u.cat Open ≡ Held w → ((x : Name) (r : Parts) → w ++ x ∷ r ≢ u.path) → step (env_of t) st u ≡ st
    not_beyond w o n = go (proper_ancestor w u.path) refl
      where
        go : (b : Bool) → proper_ancestor w u.path ≡ b → step (env_of t) st u ≡ st
        go false e = step-still (env_of t) st u (ap (λ z. takes_urn z q u.path) o ∙ e)
        go true e = let k = proper-to w u.path e in absurd (n k.0 k.1 k.2)

    takes : takes_urn (get_or st.status u.cat Open) q u.path ≡ true → (x : Name) (r : Parts) → q ++ x ∷ r ≡ u.path → Taken t st u
    takes open-to x r j =
        record {
          at = hh.0.at;
          signal = hh.0.signal;
          no-shorter = rw (← here) lies.0;
          no_longer = rw j at lies.1;
          listed = omega (arith, find-below t.cats 0 t.signals (set row u.cat hh.0.at) hh.0.signal found.0);
          fits = find-sound t (set row u.cat hh.0.at) hh.0.signal found.0;
          longest = λ p s a b h e.
              let w = find-row t.cats 0 t.signals s h in
              search-longest (env_of t) row u.cat q (x ∷ r) p w.0 (rw here a) (rw j b) (ap (find t) (sym e) ∙ w.1) hh.0 hh.1;
          whole = λ e. moved ∙ ap with (ap (λ b. open_or b after) (ap (same_parts hh.0.at) (sym e) ∙ parts-exact.self hh.0.at));
          held = λ n m y s k. moved ∙ ap with (differs n ∙ ap (λ b. held_if b u.path) (inner_of (nodes t) u.cat u.path m y s k));
          shortened = λ n k. moved ∙ ap with (differs n ∙ ap (λ b. held_if b u.path) (inner-none (nodes t) u.cat u.path k));
        }
      where
        hh : (h : Hit) × (first_hit (env_of t) row u.cat (candidates q (x ∷ r)) ≡ some h)
        hh = search-last (env_of t) row u.cat (longer q (x ∷ r)) q st.signal (rw (set-get_or row u.cat []) g.live)

        found : (find t (set row u.cat hh.0.at) ≡ some hh.0.signal) × Memᴰ hh.0.at (candidates q (x ∷ r))
        found = search-hit (env_of t) row u.cat (candidates q (x ∷ r)) hh.0 hh.1

        lies : Above q hh.0.at × Above hh.0.at (q ++ x ∷ r)
        lies = between q (x ∷ r) hh.0.at found.1

        with : Status → State
        with o = record { signal = hh.0.signal; status = set st.status u.cat o }

        after : Status
        after = held_if (is_inner (nodes t) u.cat u.path) u.path

        moved : step (env_of t) st u ≡ with (open_or (same_parts hh.0.at u.path) after)
        moved = step-takes (env_of t) st u (x ∷ r) open-to j ∙ ap (move (env_of t) st u.cat u.path) hh.1

        differs : hh.0.at ≢ u.path → open_or (same_parts hh.0.at u.path) after ≡ after
        differs n = go (same_parts hh.0.at u.path) refl
          where
            go : (b : Bool) → same_parts hh.0.at u.path ≡ b → open_or b after ≡ after
            go false e = refl
            go true e = absurd (n (parts-exact.to hh.0.at u.path e))

pub run-law : (t : Table) → RunLaw t
run-law t =
    record {
      signal-0 = refl;
      each-status = length-replicate t.cats Open;
      all-open = λ c h. get_or-replicate t.cats c Open Shut h;
      at-start = refl;
      one_more = λ us u. foldl-append (step (env_of t)) (start t.cats) us (u ∷ []);
    }
