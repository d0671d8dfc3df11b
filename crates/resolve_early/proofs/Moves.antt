-- Which URNs lead to another signal: only such as lead to a signal that differs from the current one in one category.
use Prim.Native.Nat.{ℕ, ◌<◌}
use mathlib.Core.Path.{◌≡◌, refl, sym, ap, ap₂, ◌∙◌}
use mathlib.Core.Logic.{◌⊎◌, inl, inr}
use mathlib.Core.Bool.{Bool, true, false}
use mathlib.Core.Option.{Option, none, some}
use mathlib.Core.List.Memᴰ
use mathlib.Core.List.{List, [], ◌∷◌, ◌++◌, append_assoc, Memᴰ}
use lib.ListN.{length, get_or, set, length-append}
use lib.Seq.{set-get_or, get_or-set_same}
use native.Mathlib.Omega.{arith}
use Rattle.theory_resolution.specs.Names.{Name, Parts, same_parts, proper_ancestor, longer, candidates, Above}
use Rattle.theory_resolution.specs.Table.{Urn, urn, Table, Row, row_of, find, WellFormed}
use Rattle.theory_resolution.specs.Direct.{Status, Open, Held, Shut, State, Env, Hit, env_of, first_hit, takes_urn, move, step, StateOf, Used}
use Rattle.theory_resolution.specs.Settled.{is_settled}
use Rattle.theory_resolution.proofs.Names.{name-exact, parts-exact, longer-append, longer-first, in-longer, above_root, proper-to, proper-of}
use Rattle.theory_resolution.proofs.Names.{proper-above, proper-rest}
use Rattle.theory_resolution.proofs.Table.{find-sound, find-below, row-length}
use Rattle.theory_resolution.proofs.Direct.{search-hit, Moved, step-view}
use Rattle.theory_resolution.proofs.Step.{step-still, step-shut, step-takes}
use Rattle.theory_resolution.proofs.Settled.{settled-stays, settled-urns-of}

-- of two paths above one path, the first is above the second or the second properly above the first
comparable : (p w r s : Parts) → p ++ r ≡ w ++ s → Above p w ⊎ (proper_ancestor w p ≡ true)
comparable [] w r s e = inl (above_root w)
comparable (x ∷ p) [] r s e = inr refl
comparable (x ∷ p) (y ∷ w) r s e =
    let a : x ≡ y = cc in
    let b : p ++ r ≡ w ++ s = cc in
    go a (comparable p w r s b)
  where
    go : x ≡ y → Above p w ⊎ (proper_ancestor w p ≡ true) → Above (x ∷ p) (y ∷ w) ⊎ (proper_ancestor (y ∷ w) (x ∷ p) ≡ true)
    go a (inl h) = inl (record { rest = h.rest; joined = ap₂ ◌∷◌ a h.joined })
    go a (inr h) = inr (rw (a, name-exact.self y) h)

-- a path longer than q is one of those up to what extends it
longer-has : (q : Parts) (y : Name) (f rest : Parts) → Memᴰ (q ++ y ∷ f) (longer q (y ∷ f ++ rest))
longer-has q y f rest =
    let k = longer-first q y f in
    rw (longer-append q (y ∷ f) rest, k.1) (Memᴰ.append_right (longer (q ++ y ∷ f) rest) (Memᴰ.head refl))

-- the root is never taken
root-untaken : (o : Status) (q : Parts) → takes_urn o q [] ≡ false
root-untaken Open [] = refl
root-untaken Open (x ∷ q) = refl
root-untaken (Held []) q = refl
root-untaken (Held (x ∷ w)) q = refl
root-untaken Shut q = refl

-- where one of the first candidates has a signal, one of them is found
search-some : (env : Env) (row : Row) (c : ℕ) (ps qs : List Parts) (p : Parts) (s : ℕ) → Memᴰ p ps → env.finder (set row c p) ≡ some s
    → (h : Hit) × (first_hit env row c (ps ++ qs) ≡ some h) × Memᴰ h.at ps
search-some env row c [] qs p s m f = absurd (Memᴰ.not-nil m)
search-some env row c (q ∷ ps) qs p s m f = go (env.finder (set row c q)) refl (Memᴰ.cases_cons m) (λ k. search-some env row c ps qs p s k f)
  where
    go : (o : Option ℕ) → env.finder (set row c q) ≡ o → (p ≡ q) ⊎ Memᴰ p ps
        → (Memᴰ p ps → (h : Hit) × (first_hit env row c (ps ++ qs) ≡ some h) × Memᴰ h.at ps)
        → (h : Hit) × (first_hit env row c ((q ∷ ps) ++ qs) ≡ some h) × Memᴰ h.at (q ∷ ps)
    go (some k) e v ih = (record { at = q; signal = k }, rw e, Memᴰ.head refl)
    go none e (inl v) ih = absurd (let z : none ≡ some s = sym e ∙ ap (λ x. env.finder (set row c x)) (sym v) ∙ f in
        let y : ◌≡◌ {A = ℕ} 0 1 = cc in omega arith)
    go none e (inr v) ih = let k = ih v in (k.0, rw e k.1, Memᴰ.tail k.2)

module _ (t : Table) (st : State) (g : StateOf t st) where
  abbrev env : Env
  env = env_of t

  abbrev row : Row
  row = row_of t st.signal

  abbrev here : ℕ → Parts
  here c = get_or row c []

  abbrev status : ℕ → Status
  status c = get_or st.status c Open

  -- a taken path that has a signal of its own is found first
  hit-first : (c : ℕ) (p : Parts) (s : ℕ) → find t (set row c p) ≡ some s → takes_urn (status c) (here c) p ≡ true → proper_ancestor (here c) p ≡ true
      → (step env st (urn c p)).signal ≡ s
  hit-first c p s f e a =
      let v = proper-to (here c) p a in
      let k = longer-first (here c) v.0 v.1 in
      let h : first_hit env row c (candidates (here c) (v.0 ∷ v.1)) ≡ some (record { at = p; signal = s }) =
      ap (λ l. first_hit env row c (l ++ here c ∷ [])) (k.1 ∙ ap (λ z. z ∷ k.0) v.2) ∙ found (k.0 ++ here c ∷ []) in
      ap (λ z. z.signal) (step-takes env st (urn c p) (v.0 ∷ v.1) e v.2) ∙ ap (λ z. (move env st c p z).signal) h
    where
      found : (rest : List Parts) → first_hit env row c (p ∷ rest) ≡ some (record { at = p; signal = s })
      found rest = rw f

  -- what the two kinds of URNs that are asked about keep: the places of signals beside the current one, and what is no node under a held one
  pub record Quiet : Type 0 where
    pub beside : (c : ℕ) → c < t.cats → (status c ≡ Shut → ⊥) → (p : Parts) (s : ℕ) → s < length t.signals → row_of t s ≡ set row c p
        → (step env st (urn c p)).signal ≡ st.signal
    pub under : (c : ℕ) → c < t.cats → (w : Parts) → status c ≡ Held w → (step env st (urn c (w ++ [] ∷ []))).signal ≡ st.signal

  -- under a held node, a signal at a path down to that node is found by what is no node under it
  held-finds : Quiet → (c : ℕ) → c < t.cats → (w p : Parts) (s : ℕ) → status c ≡ Held w → find t (set row c p) ≡ some s
      → proper_ancestor (here c) p ≡ true → Above p w → ⊥
  held-finds q c h w p s e f a b =
      let v = proper-to (here c) p a in
      let rest : Parts = v.0 ∷ v.1 ++ (b.rest ++ [] ∷ []) in
      let j : here c ++ rest ≡ w ++ [] ∷ [] =
      sym (append_assoc (here c) (v.0 ∷ v.1) (b.rest ++ [] ∷ [])) ∙ ap (λ z. z ++ (b.rest ++ [] ∷ [])) v.2 ∙ sym (append_assoc p b.rest ([] ∷ []))
      ∙ ap (λ z. z ++ [] ∷ []) b.joined in
      let m = rw v.2 at (longer-has (here c) v.0 v.1 (b.rest ++ [] ∷ [])) in
      let k = search-some env row c (longer (here c) rest) (here c ∷ []) p s m f in
      let takes : takes_urn (status c) (here c) (w ++ [] ∷ []) ≡ true = ap (λ o. takes_urn o (here c) (w ++ [] ∷ [])) e ∙ proper-of w (w ++ [] ∷ []) [] [] refl in
      let same : k.0.signal ≡ st.signal =
      sym (ap (λ z. z.signal) (step-takes env st (urn c (w ++ [] ∷ [])) rest takes j) ∙ ap (λ z. (move env st c (w ++ [] ∷ []) z).signal)
      k.1) ∙ q.under c h w e in
      let got = (search-hit env row c (candidates (here c) rest) k.0 k.1).0 in
      let r : row ≡ set row c k.0.at = ap (row_of t) (sym same) ∙ find-sound t (set row c k.0.at) k.0.signal got in
      let at_here : here c ≡ k.0.at = ap (λ z. get_or z c []) r
      ∙ get_or-set_same row c k.0.at [] (rw (row-length (get_or t.signals st.signal []) 0 t.cats) h) in
      let x = in-longer (here c) rest k.0.at k.2 in
      omega (arith, ap length at_here, ap length x.is, length-append (here c) (x.head ∷ x.mid))

  -- so no URN leads to another signal
  pub quiet-urns : Quiet → (u : Urn) → Used t u → (step env st u).signal ≡ st.signal
  quiet-urns q u used = by (status u.cat) refl
    where
      c : ℕ
      c = u.cat

      -- found at the place: the current signal
      stay : (m : Moved env st u) → m.hit.at ≡ here c → m.hit.signal ≡ st.signal
      stay m e =
          let r : set row c m.hit.at ≡ row = ap (set row c) e ∙ set-get_or row c [] in
          let z : some m.hit.signal ≡ some st.signal = sym m.got ∙ ap (find t) r ∙ g.live in
          cc

      -- found beyond it, where the path itself is taken
      direct : (m : Moved env st u) → (status c ≡ Shut → ⊥) → takes_urn (status c) (here c) m.hit.at ≡ true
          → proper_ancestor (here c) m.hit.at ≡ true → m.hit.signal ≡ st.signal
      direct m n e a =
          let low : m.hit.signal < length t.signals = omega (
            arith,
            find-below t.cats 0 t.signals (set row c m.hit.at) m.hit.signal m.got,
          ) in
          sym (hit-first c m.hit.at m.hit.signal m.got e a)
          ∙ q.beside c used.known n m.hit.at m.hit.signal low (find-sound t (set row c m.hit.at) m.hit.signal m.got)

      moved : (o : Status) → status c ≡ o → (o ≡ Shut → ⊥) → takes_urn o (here c) u.path ≡ true → (m : Moved env st u) → (b : Bool)
          → same_parts (here c) m.hit.at ≡ b → m.hit.signal ≡ st.signal
      moved o e n a m true i = stay m (sym (parts-exact.to (here c) m.hit.at i))
      moved Open e n a m false i =
          let k = proper-rest (here c) m.hit.at m.up i in
          direct m (λ z. n (sym e ∙ z)) (ap (λ o. takes_urn o (here c) m.hit.at) e ∙ k) k
      moved (Held w) e n a m false i =
          split (comparable m.hit.at w m.down.rest (proper-above w u.path a).rest (m.down.joined ∙ sym (proper-above w u.path a).joined))
        where
          k : proper_ancestor (here c) m.hit.at ≡ true
          k = proper-rest (here c) m.hit.at m.up i

          split : Above m.hit.at w ⊎ (proper_ancestor w m.hit.at ≡ true) → m.hit.signal ≡ st.signal
          split (inl b) = absurd (held-finds q c used.known w m.hit.at m.hit.signal e m.got k b)
          split (inr b) = direct m (λ z. n (sym e ∙ z)) (ap (λ o. takes_urn o (here c) m.hit.at) e ∙ b) k
      moved Shut e n a m false i = absurd (n refl)

      view : (o : Status) → status c ≡ o → (o ≡ Shut → ⊥) → takes_urn o (here c) u.path ≡ true → (step env st u ≡ st) ⊎ Moved env st u
          → (step env st u).signal ≡ st.signal
      view o e n a (inl i) = ap (λ z. z.signal) i
      view o e n a (inr m) = ap (λ z. z.signal) m.result ∙ moved o e n a m (same_parts (here c) m.hit.at) refl

      taken : (o : Status) → status c ≡ o → (o ≡ Shut → ⊥) → (b : Bool) → takes_urn o (here c) u.path ≡ b → (step env st u).signal ≡ st.signal
      taken o e n false a = ap (λ z. z.signal) (step-still env st u (ap (λ o. takes_urn o (here c) u.path) e ∙ a))
      taken o e n true a = view o e n a (step-view env st u)

      by : (o : Status) → status c ≡ o → (step env st u).signal ≡ st.signal
      by Open e = taken Open e (λ z. let y : ◌≡◌ {A = ℕ} 0 1 = cc in omega arith) (takes_urn Open (here c) u.path) refl
      by (Held w) e = taken (Held w) e (λ z. let y : ◌≡◌ {A = ℕ} 0 1 = cc in omega arith) (takes_urn (Held w) (here c) u.path) refl
      by Shut e = ap (λ z. z.signal) (step-shut env st u e)

  pub quiet-settled : Quiet → is_settled t st ≡ true
  quiet-settled q = settled-urns-of t st (quiet-urns q)

  -- and from a settled state none of them does
  pub settled-keeps : WellFormed t → is_settled t st ≡ true → (c : ℕ) → c < t.cats → (p : Parts) → (step env st (urn c p)).signal ≡ st.signal
  settled-keeps wf e c h [] = ap (λ z. z.signal) (step-still env st (urn c []) (root-untaken (status c) (here c)))
  settled-keeps wf e c h (x ∷ p) =
      settled-stays t wf st g e (some (urn c (x ∷ p)) ∷ [])
      (λ u m. rw (Memᴰ.eq_of_singleton m) (record { known = h; some-part = λ z. let y : ◌≡◌ {A = ℕ} 0 1 = cc in omega arith }))
