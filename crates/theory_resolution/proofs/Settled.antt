-- Laws of settled states: a step that keeps the signal lets its category take no more than before.
use Prim.Native.Nat.{ℕ, zero, suc, ◌≤◌, ◌<◌}
use mathlib.Core.Path.{◌≡◌, refl, sym, ap, ap₂, ◌∙◌}
use mathlib.Core.Logic.{◌⊎◌, inl, inr}
use mathlib.Core.Bool.{Bool, true, false, cond, true≢false, false≢true}
use mathlib.Core.Option.{Option, none, some}
use mathlib.Core.List.Memᴰ
use mathlib.Core.List.{List, [], ◌∷◌, ◌++◌, foldl, append_assoc, Memᴰ}
use lib.Dec.{eqb}
use borrow.Author.Tests.{eqb-true, eq-eqb}
use lib.ListN.{length, get_or, set, take, length-set}
use lib.Seq.{get_or-set_same, get_or-set_other}
use native.Mathlib.Omega.{arith}
use native.Mathlib.Decide.{ℕ_discrete, dec_lt}
use Rattle.base_lists.proofs.Lists.{mem-at}
use Rattle.base_lists.proofs.Below.{all-to, all_of, all_same}
use Rattle.theory_resolution.specs.Names.{Parts, same_parts, below, proper_ancestor, candidates}
use Rattle.theory_resolution.specs.Table.{Urn, urn, Table, Row, row_of, WellFormed}
use Rattle.theory_resolution.specs.Direct.{Status, Open, Held, Shut, State, Env, Hit, start, first_hit, held_if, open_or, status_after, takes_urn}
use Rattle.theory_resolution.specs.Direct.{if_taken, step, env_of, direct, used_of, step_uri, StateOf, Used, AllUsed}
use Rattle.theory_resolution.specs.Nodes.{nodes}
use Rattle.theory_resolution.specs.Symbols.{symbols, symbol_of, symbol_index, symbol_at, steps_as, step_symbol, by_symbols, step_at}
use Rattle.theory_resolution.specs.Settled.{Settled, keeps_signal, is_settled, needed_from, needed, after_first, EarlyLaw}
use Rattle.theory_resolution.proofs.Names.{parts-exact, proper-to, proper-of}
use Rattle.theory_resolution.proofs.Table.{row-length, find-sound}
use Rattle.theory_resolution.proofs.Direct.{search-hit}
use Rattle.theory_resolution.proofs.Step.{step-still}
use Rattle.theory_resolution.proofs.TableStep.{table-laws, valid-start, state-valid, state-start, state-step, state-direct}
use Rattle.theory_resolution.proofs.Alike.{Alike, alike-step, alike-run}
use Rattle.theory_resolution.proofs.Symbols.{symbol-at-index, symbol-known}
use Rattle.theory_resolution.proofs.Claim.{run-used}

proper-trans : (p q r : Parts) → proper_ancestor p q ≡ true → proper_ancestor q r ≡ true → proper_ancestor p r ≡ true
proper-trans p q r a b =
    let v = proper-to p q a in
    let w = proper-to q r b in
    proper-of p r v.0 (v.1 ++ w.0 ∷ w.1) (sym (append_assoc p (v.0 ∷ v.1) (w.0 ∷ w.1)) ∙ ap (λ z. z ++ w.0 ∷ w.1) v.2 ∙ w.2)

-- a category that takes p takes what properly extends p
pub takes-past : (o : Status) (q p r : Parts) → takes_urn o q p ≡ true → proper_ancestor p r ≡ true → takes_urn o q r ≡ true
takes-past Open q p r e h = proper-trans q p r e h
takes-past (Held w) q p r e h = proper-trans w p r e h
takes-past Shut q p r e h = absurd (false≢true e)

-- the status after p takes only what properly extends p, if it is open only where p is the place
after-takes : (s b : Bool) (q p r : Parts) → (s ≡ true → q ≡ p) → takes_urn (open_or s (held_if b p)) q r ≡ true → proper_ancestor p r ≡ true
after-takes true b q p r h e = rw (h refl) at e
after-takes false true q p r h e = e
after-takes false false q p r h e = absurd (false≢true e)

module _ (env : Env) (sound : (r : Row) (s : ℕ) → env.finder r ≡ some s → env.rows s ≡ r) (cats s : ℕ) (wide : length (env.rows s) ≡ cats) where
  abbrev at : List Status → State
  at σ = record { signal = s; status = σ }

  abbrev place : ℕ → Parts
  place c = get_or (env.rows s) c []

  -- one status for each category, and each takes only what it took
  pub record Tighter (σ τ : List Status) : Type 0 where
    pub sized : length τ ≡ cats
    pub takes : (c : ℕ) → c < cats → (p : Parts) → takes_urn (get_or τ c Open) (place c) p ≡ true → takes_urn (get_or σ c Open) (place c) p ≡ true

  -- where a URN keeps the signal from σ, it keeps it from what is tighter, and the statuses are tighter still
  tighter-step : (σ τ : List Status) → Tighter σ τ → (u : Urn) → u.cat < cats → (step env (at σ) u).signal ≡ s
      → (υ : List Status) × (step env (at τ) u ≡ at υ) × Tighter σ υ
  unfolding step
  tighter-step σ τ g u h = go (takes_urn (get_or τ c Open) (place c) p) refl
    where
      c : ℕ
      c = u.cat

      p : Parts
      p = u.path

      moved : (k : Hit) → env.finder (set (env.rows s) c k.at) ≡ some k.signal → k.signal ≡ s → takes_urn (get_or τ c Open) (place c) p ≡ true
          → Tighter σ (set τ c (status_after env c p k))
      moved k f e t = record { sized = length-set τ c (status_after env c p k) ∙ g.sized; takes = λ d b r i. g.takes d b r (by d (ℕ_discrete d c) r i) }
        where
          row : set (env.rows s) c k.at ≡ env.rows s
          row = sym (sound (set (env.rows s) c k.at) k.signal f) ∙ ap env.rows e

          found_here : k.at ≡ place c
          found_here = sym (get_or-set_same (env.rows s) c k.at [] (rw wide h)) ∙ ap (λ z. get_or z c []) row

          by : (d : ℕ) → Dec (d ≡ c) → (r : Parts) → takes_urn (get_or (set τ c (status_after env c p k)) d Open) (place d) r ≡ true
              → takes_urn (get_or τ d Open) (place d) r ≡ true
          by d (yes i) r e =
              let j : takes_urn (status_after env c p k) (place c) r ≡ true = rw (i, get_or-set_same τ c (status_after env c p k) Open (rw g.sized h)) at e in
              rw i
              (takes-past (get_or τ c Open) (place c) p r t
              (after-takes (same_parts k.at p) (env.inner c p) (place c) p r (λ x. sym found_here ∙ parts-exact.to k.at p x) j))
          by d (no i) r e = rw (get_or-set_other τ c d (status_after env c p k) Open i) at e

      go : (b : Bool) → takes_urn (get_or τ c Open) (place c) p ≡ b → (if_taken env (at σ) c p (takes_urn (get_or σ c Open) (place c) p) (below (place c) p)).signal ≡ s
          → (υ : List Status) × (if_taken env (at τ) c p (takes_urn (get_or τ c Open) (place c) p) (below (place c) p) ≡ at υ) × Tighter σ υ
      go false e stay = (τ, rw e, g)
      go true e stay = rest (below (place c) p) (rw (g.takes c h p e) at stay)
        where
          hit : (r : Parts) (o : Option Hit) → first_hit env (env.rows s) c (candidates (place c) r) ≡ o → (if_taken env (at σ) c p true (some r)).signal ≡ s
              → (υ : List Status) × (if_taken env (at τ) c p true (some r) ≡ at υ) × Tighter σ υ
          hit r none f i = (τ, rw f, g)
          hit r (some k) f i =
              let j : k.signal ≡ s = rw f at i in (
                set τ c (status_after env c p k),
                rw f (λ x. record { signal = j x; status = set τ c (status_after env c p k) }),
                moved k (search-hit env (env.rows s) c (candidates (place c) r) k f).0 j e,
              )

          rest : (o : Option Parts) → (if_taken env (at σ) c p true o).signal ≡ s
              → (υ : List Status) × (if_taken env (at τ) c p (takes_urn (get_or τ c Open) (place c) p) o ≡ at υ) × Tighter σ υ
          rest none i = (τ, rw e, g)
          rest (some r) i = rw e (hit r (first_hit env (env.rows s) c (candidates (place c) r)) refl i)

  -- where each of some URNs keeps the signal, every list of them does
  pub tighter-run : {A : Type 0} (urn_of : A → Urn) (P : A → Type 0) (σ : List Status)
      → ((a : A) → P a → ((urn_of a).cat < cats) × ((step env (at σ) (urn_of a)).signal ≡ s))
      → (l : List A) → ((a : A) → Memᴰ a l → P a) → (τ : List Status) → Tighter σ τ → (foldl (λ st a. step env st (urn_of a)) (at τ) l).signal ≡ s
  tighter-run urn_of P σ stay [] each τ g = refl
  tighter-run urn_of P σ stay (a ∷ l) each τ g =
      let k = stay a (each a (Memᴰ.head refl)) in
      let w = tighter-step σ τ g (urn_of a) k.0 k.1 in
      ap (λ st. (foldl (λ st a. step env st (urn_of a)) st l).signal) w.1
      ∙ tighter-run urn_of P σ stay l (λ b m. each b (Memᴰ.tail m)) w.0 w.2

module _ (t : Table) where
  -- as tight as itself
  itself : (st : State) → StateOf t st
      → Tighter (env_of t) (find-sound t) t.cats st.signal (row-length (get_or t.signals st.signal []) 0 t.cats) st.status st.status
  itself st g = record { sized = g.sized; takes = λ c h p e. e }

  keeps : (st : State) → is_settled t st ≡ true → (k : ℕ) → k < length (symbols t) → (step_at t st k).signal ≡ st.signal
  keeps st e k h = eqb-true (step_at t st k).signal st.signal (all-to (length (symbols t)) (keeps_signal t st) e k h)

  symbol-cat : (k : ℕ) → k < length (symbols t) → (symbol_at t k).cat < t.cats
  symbol-cat k h = (symbol-known t (symbol_at t k) (mem-at (symbols t) k _ h)).0

  -- by single symbols, and by all sequences
  pub settled-to : (st : State) → StateOf t st → is_settled t st ≡ true → Settled t st
  settled-to st g e ks listed =
      tighter-run (env_of t) (find-sound t) t.cats st.signal (row-length (get_or t.signals st.signal []) 0 t.cats)
      (λ k. steps_as (symbol_at t k)) (λ k. k < length (symbols t)) st.status
      (λ k h. (symbol-cat k h, keeps st e k h)) ks listed st.status (itself st g)

  pub settled-of : (st : State) → Settled t st → is_settled t st ≡ true
  settled-of st s =
      all_of (length (symbols t)) (keeps_signal t st)
      (λ k h. eq-eqb (step_at t st k).signal st.signal (s (k ∷ []) (λ j m. rw (Memᴰ.eq_of_singleton m) h)))

  -- a symbol steps as a used URN, or changes nothing
  pub settled-urns-of : (st : State) → ((u : Urn) → Used t u → (step (env_of t) st u).signal ≡ st.signal) → is_settled t st ≡ true
  settled-urns-of st stay =
      all_of (length (symbols t)) (keeps_signal t st) (λ k h. eq-eqb (step_at t st k).signal st.signal
      (at (steps_as (symbol_at t k)).path (symbol_at t k).cat (symbol-cat k h)))
    where
      root-untaken : (o : Status) (q : Parts) → takes_urn o q [] ≡ false
      root-untaken Open [] = refl
      root-untaken Open (x ∷ q) = refl
      root-untaken (Held []) q = refl
      root-untaken (Held (x ∷ w)) q = refl
      root-untaken Shut q = refl

      at : (p : Parts) (c : ℕ) → c < t.cats → (step (env_of t) st (urn c p)).signal ≡ st.signal
      at [] c h = ap (λ z. z.signal) (step-still (env_of t) st (urn c []) (root-untaken (get_or st.status c Open) (get_or (row_of t st.signal) c [])))
      at (x ∷ p) c h = stay (urn c (x ∷ p)) (record { known = h; some-part = λ e. let z : ◌≡◌ {A = ℕ} 0 1 = cc in omega arith })

  module _ (wf : WellFormed t) where
    -- a URN keeps the signal if its symbol does
    urn-keeps : (st : State) → StateOf t st → is_settled t st ≡ true → (u : Urn) → Used t u → (step (env_of t) st u).signal ≡ st.signal
    urn-keeps st g e u used =
        let v = state-valid t st g in
        let k = symbol-at-index t u used in
        (alike-step (env_of t) t.cats (nodes t) (table-laws t wf) st st u used.known v v (record { same = refl; each = λ c h. inl refl })).same
        ∙ ap (λ z. (step (env_of t) st (steps_as z)).signal) (sym k.1)
        ∙ keeps st e (symbol_index (symbol_of (nodes t) u) (symbols t)) k.0

    -- states that are alike have the same signal after each URN
    alike-signal : (a b : State) → StateOf t a → StateOf t b → Alike (env_of t) t.cats (nodes t) a b → (u : Urn) → u.cat < t.cats
        → (step (env_of t) a u).signal ≡ (step (env_of t) b u).signal
    alike-signal a b ga gb w u known =
        (alike-step (env_of t) t.cats (nodes t) (table-laws t wf) a b u known (state-valid t a ga) (state-valid t b gb) w).same
        ∙ sym (alike-step (env_of t) t.cats (nodes t) (table-laws t wf) b b u known (state-valid t b gb) (state-valid t b gb)
        (record { same = refl; each = λ c h. inl refl })).same

    -- so they are settled alike
    pub settled-alike : (a b : State) → StateOf t a → StateOf t b → Alike (env_of t) t.cats (nodes t) a b → is_settled t a ≡ is_settled t b
    settled-alike a b ga gb w =
        all_same (length (symbols t)) (keeps_signal t a) (keeps_signal t b)
        (λ k h. ap₂ eqb (alike-signal a b ga gb w (steps_as (symbol_at t k)) (symbol-cat k h)) w.same)

    symbols-state : (st : State) (us : List Urn) → StateOf t st → StateOf t (foldl (λ st u. step_symbol t st (symbol_of (nodes t) u)) st us)
    symbols-state st [] g = g
    symbols-state st (u ∷ us) g = symbols-state (step_symbol t st (symbol_of (nodes t) u)) us (state-step t wf st (steps_as (symbol_of (nodes t) u)) g)

    pub settled-symbols : (us : List Urn) → ((u : Urn) → Memᴰ u us → Used t u) → is_settled t (by_symbols t us) ≡ is_settled t (direct t us)
    settled-symbols us used =
        sym (settled-alike (direct t us) (by_symbols t us) (state-direct t wf us) (symbols-state (start t.cats) us (state-start t wf))
        (alike-run (env_of t) t.cats (nodes t) (table-laws t wf) (start t.cats) (start t.cats) us (λ u m. (used u m).known)
        (valid-start t wf) (valid-start t wf)
        (record { same = refl; each = λ c h. inl refl })))

    settled-urns : (st : State) → StateOf t st → is_settled t st ≡ true → (us : List Urn) → ((u : Urn) → Memᴰ u us → Used t u)
        → (foldl (step (env_of t)) st us).signal ≡ st.signal
    settled-urns st g e us used =
        tighter-run (env_of t) (find-sound t) t.cats st.signal (row-length (get_or t.signals st.signal []) 0 t.cats) (λ u. u) (Used t) st.status
        (λ u h. (h.known, urn-keeps st g e u h)) us used st.status (itself st g)

    pub settled-stays : (st : State) → StateOf t st → is_settled t st ≡ true → (l : List (Option Urn)) → AllUsed t l
        → (foldl (step_uri (step (env_of t))) st l).signal ≡ st.signal
    settled-stays st g e l used = ap (λ z. z.signal) (run-used (step (env_of t)) st l) ∙ settled-urns st g e (used_of l) used

    -- the states along a list of URIs
    abbrev next_uri : State → Option Urn → State
    next_uri = step_uri (step (env_of t))

    uri-state : (st : State) → StateOf t st → (u : Option Urn) → StateOf t (next_uri st u)
    uri-state st g none = g
    uri-state st g (some u) = state-step t wf st u g

    used-rest : (u : Option Urn) (l : List (Option Urn)) → AllUsed t (u ∷ l) → AllUsed t l
    used-rest none l used = used
    used-rest (some u) l used = λ v m. used v (Memᴰ.tail m)

    early_from : (st : State) → StateOf t st → (l : List (Option Urn)) → AllUsed t l
        → (foldl next_uri st (take (needed_from t st l) l)).signal ≡ (foldl next_uri st l).signal
    early_from st g [] used = refl
    early_from st g (u ∷ l) used = go (is_settled t st) refl (early_from (next_uri st u) (uri-state st g u) l (used-rest u l used))
      where
        go : (b : Bool) → is_settled t st ≡ b → (foldl next_uri (next_uri st u) (take (needed_from t (next_uri st u) l) l)).signal
            ≡ (foldl next_uri (next_uri st u) l).signal
            → (foldl next_uri st (take (cond b 0 (suc (needed_from t (next_uri st u) l))) (u ∷ l))).signal ≡ (foldl next_uri st (u ∷ l)).signal
        go true e ih = sym (settled-stays st g e (u ∷ l) used)
        go false e ih = ih

  within-from : (st : State) (l : List (Option Urn)) → needed_from t st l ≤ length l
  within-from st [] = omega arith
  within-from st (u ∷ l) = go (is_settled t st) (within-from (step_uri (step (env_of t)) st u) l)
    where
      go : (b : Bool) → needed_from t (step_uri (step (env_of t)) st u) l ≤ length l
          → cond b 0 (suc (needed_from t (step_uri (step (env_of t)) st u) l)) ≤ length (u ∷ l)
      go true ih = omega arith
      go false ih = omega arith

  abbrev run : State → List (Option Urn) → State
  run = foldl (step_uri (step (env_of t)))

  enough-from : (st : State) (l : List (Option Urn)) → needed_from t st l < length l → is_settled t (run st (take (needed_from t st l) l)) ≡ true
  enough-from st [] h = absurd (omega arith)
  enough-from st (u ∷ l) h = go (is_settled t st) refl (enough-from (step_uri (step (env_of t)) st u) l) h
    where
      k : ℕ
      k = needed_from t (step_uri (step (env_of t)) st u) l

      go : (b : Bool) → is_settled t st ≡ b → (k < length l → is_settled t (run (step_uri (step (env_of t)) st u) (take k l)) ≡ true)
          → cond b 0 (suc k) < length (u ∷ l) → is_settled t (run st (take (cond b 0 (suc k)) (u ∷ l))) ≡ true
      go true e ih h = e
      go false e ih h = ih (omega arith)

  fewest-from : (st : State) (l : List (Option Urn)) (k : ℕ) → k < needed_from t st l → is_settled t (run st (take k l)) ≡ false
  fewest-from st [] k h = absurd (omega arith)
  fewest-from st (u ∷ l) k h = go (is_settled t st) refl k (fewest-from (step_uri (step (env_of t)) st u) l) h
    where
      m : ℕ
      m = needed_from t (step_uri (step (env_of t)) st u) l

      go : (b : Bool) → is_settled t st ≡ b → (k : ℕ) → ((k : ℕ) → k < m → is_settled t (run (step_uri (step (env_of t)) st u) (take k l)) ≡ false)
          → k < cond b 0 (suc m) → is_settled t (run st (take k (u ∷ l))) ≡ false
      go true e k ih h = absurd (omega arith)
      go false e zero ih h = e
      go false e (suc k) ih h = ih k (omega arith)

  ahead-from : (st : State) (l after : List (Option Urn)) → is_settled t (run st l) ≡ true → needed_from t st (l ++ after) ≡ needed_from t st l
  ahead-from st [] [] e = refl
  ahead-from st [] (u ∷ after) e = rw e
  ahead-from st (u ∷ l) after e = ap (λ n. cond (is_settled t st) 0 (suc n)) (ahead-from (step_uri (step (env_of t)) st u) l after e)

  -- a run over the first URIs of a list, from the start
  first_run : (l : List (Option Urn)) (k : ℕ) → run (start t.cats) (take k l) ≡ after_first t l k
  first_run l k = run-used (step (env_of t)) (start t.cats) (take k l)

module _ (t : Table) where
  -- from the start on
  pub needed-within : (l : List (Option Urn)) → needed t l ≤ length l
  needed-within = within-from t (start t.cats)

  pub needed-fewest : (l : List (Option Urn)) (k : ℕ) → k < needed t l → Settled t (after_first t l k) → ⊥
  needed-fewest l k h s =
      true≢false (sym (settled-of t (after_first t l k) s) ∙ ap (is_settled t) (sym (first_run t l k)) ∙ fewest-from t (start t.cats) l k h)

  pub needed-ahead : (l after : List (Option Urn)) → Settled t (direct t (used_of l)) → needed t (l ++ after) ≡ needed t l
  needed-ahead l after s =
      ahead-from t (start t.cats) l after (ap (is_settled t) (run-used (step (env_of t)) (start t.cats) l) ∙ settled-of t (direct t (used_of l)) s)

  module _ (wf : WellFormed t) where
    pub needed-enough : (l : List (Option Urn)) → needed t l < length l → Settled t (after_first t l (needed t l))
    needed-enough l h =
        settled-to t (after_first t l (needed t l)) (state-direct t wf (used_of (take (needed t l) l)))
        (ap (is_settled t) (sym (first_run t l (needed t l))) ∙ enough-from t (start t.cats) l h)

    pub needed-early : (l : List (Option Urn)) → AllUsed t l → (after_first t l (needed t l)).signal ≡ (direct t (used_of l)).signal
    needed-early l used =
        ap (λ st. st.signal) (sym (first_run t l (needed t l)))
        ∙ early_from t wf (start t.cats) (state-start t wf) l used
        ∙ ap (λ st. st.signal) (run-used (step (env_of t)) (start t.cats) l)

    pub needed-is : (l : List (Option Urn)) (k : ℕ) → k ≤ length l → ((j : ℕ) → j < k → is_settled t (after_first t l j) ≡ false)
        → (is_settled t (after_first t l k) ≡ true) ⊎ (k ≡ length l) → needed t l ≡ k
    needed-is l k h before stop = go (dec_lt (needed t l) k) (dec_lt k (needed t l)) stop
      where
        go : Dec (needed t l < k) → Dec (k < needed t l) → (is_settled t (after_first t l k) ≡ true) ⊎ (k ≡ length l) → needed t l ≡ k
        go (yes a) b c =
            let e = settled-of t (after_first t l (needed t l)) (needed-enough l (omega arith)) in
            absurd (true≢false (sym e ∙ before (needed t l) a))
        go (no a) (yes b) (inl c) = absurd (true≢false (sym c ∙ ap (is_settled t) (sym (first_run t l k)) ∙ fewest-from t (start t.cats) l k b))
        go (no a) (yes b) (inr c) = absurd (omega (arith, needed-within l))
        go (no a) (no b) c = omega arith

pub early-law : (t : Table) → WellFormed t → EarlyLaw t
early-law t wf =
    record {
      settled-to = settled-to t;
      settled-of = settled-of t;
      by-urns = settled-urns-of t;
      by-symbols = settled-symbols t wf;
      stays = λ st g s. settled-stays t wf st g (settled-of t st s);
      early = needed-early t wf;
      within = needed-within t;
      enough = needed-enough t wf;
      fewest = needed-fewest t;
      is-needed = needed-is t wf;
      ahead = needed-ahead t;
    }
