-- The step of direct resolution, and the step by symbols, are steps at a node.
use Prim.Native.Nat.{ℕ, ◌<◌}
use mathlib.Core.Path.{◌≡◌, refl, sym, ap, ◌∙◌}
use mathlib.Core.Logic.{◌⊎◌, inl, inr}
use mathlib.Core.Bool.{Bool, true, false, not, ◌&&◌, true≢false, false≢true, and-eq-true_iff}
use mathlib.Core.Option.{Option, none, some}
use mathlib.Core.List.Memᴰ
use mathlib.Core.List.{List, [], ◌∷◌, ◌++◌, append_assoc, append-nil, Memᴰ}
use lib.ListN.{length, get_or, set, length-append}
use lib.Seq.{set-get_or}
use native.Mathlib.Omega.{arith}
use Rattle.theory_resolution.specs.Names.{Name, Parts, same_parts, below, proper_ancestor, longer, candidates, Above}
use Rattle.theory_resolution.proofs.Names.{parts-exact, below-to, below_self, above-self, above_root, above-trans, between, not-past}
use Rattle.theory_resolution.proofs.Names.{snoc-split, proper-to, proper-of, proper-above}
use Rattle.theory_resolution.specs.Table.{Urn, urn}
use Rattle.theory_resolution.specs.Nodes.{is_node, RootOrNode, is_inner, is_root, deepest}
use Rattle.theory_resolution.specs.Direct.{Status, Open, Held, Shut, State, Env, Hit, first_hit, held_if, open_or, status_fits, takes_urn, move, step}
use Rattle.theory_resolution.proofs.Direct.{search-hit, search-last}
use Rattle.theory_resolution.specs.Symbols.{Symbol, steps_as_path, steps_as}
use Rattle.theory_resolution.proofs.Deepest.{deep-above, above-deep, past-no-node, inner-node}
use Rattle.theory_resolution.proofs.Step.{EnvLaws, Valid, step-still, step-takes, seek, hit-node, beyond}
use Rattle.theory_resolution.specs.NodeStep.{node_under, node_takes, node_if_taken, node_step}

module _ (env : Env) (cats : ℕ) (ns : List Urn) (laws : EnvLaws env cats ns) where
  -- a path d ++ f past d, where nothing is found past d, nodes above the path are above d, and the path is d or no node
  module _ (st : State) (g : Valid env cats ns st) (c : ℕ) (known : c < cats) (d f : Parts)
      (quiet : (p : Parts) → Memᴰ p (longer d f) → env.finder (set (env.rows st.signal) c p) ≡ none)
      (lies : (p : Parts) → RootOrNode ns c p → Above p (d ++ f) → Above p d)
      (no_node : (x : Name) (h : Parts) → f ≡ x ∷ h → is_node ns c (d ++ f) ≡ false) where
    abbrev q : Parts
    q = get_or (env.rows st.signal) c []

    q-node : RootOrNode ns c q
    q-node = laws.noded (env.rows st.signal) st.signal c g.live

    -- where p is a proper ancestor of d ++ f, and where it is not
    same-under : (p : Parts) → RootOrNode ns c p → node_under (below p d) (is_root f) ≡ proper_ancestor p (d ++ f)
    same-under p n = go (proper_ancestor p (d ++ f)) refl (below p d) refl f refl
      where
        past : (r : Parts) → p ++ r ≡ d → (x : Name) (h : Parts) → r ++ f ≡ x ∷ h → proper_ancestor p (d ++ f) ≡ true
        past r j x h e = proper-of p (d ++ f) x h (ap (λ z. p ++ z) (sym e) ∙ sym (append_assoc p r f) ∙ ap (λ z. z ++ f) j)

        go : (b : Bool) → proper_ancestor p (d ++ f) ≡ b → (o : Option Parts) → below p d ≡ o → (h : Parts) → f ≡ h → node_under o (is_root h) ≡ b
        go true e none j h i =
            let a = lies p n (proper-above p (d ++ f) e) in
            let k : none ≡ some a.rest = sym j ∙ ap (below p) (sym a.joined) ∙ below_self p a.rest in
            cc
        go true e (some []) j [] i =
            let w = proper-to p (d ++ f) e in
            let k = below-to p d [] j in
            absurd (omega (arith, length-append p (w.0 ∷ w.1), ap length w.2, length-append d f, ap length i, length-append p [], ap length k))
        go true e (some []) j (x ∷ h) i = refl
        go true e (some (x ∷ r)) j h i = refl
        go false e none j h i = refl
        go false e (some []) j [] i = refl
        go false e (some []) j (x ∷ h) i = absurd (true≢false (sym (past [] (below-to p d [] j) x h i) ∙ e))
        go false e (some (x ∷ r)) j h i = absurd (true≢false (sym (past (x ∷ r) (below-to p d (x ∷ r) j) x (r ++ f) refl) ∙ e))

    -- where a category is held: a node below the place
    held-node : (w : Parts) → status_fits ns c q (Held w) ≡ true → RootOrNode ns c w × Above q w
    held-node w e =
        let k = (and-eq-true_iff (proper_ancestor q w) (is_inner ns c w)).0 e in
        (inr (inner-node ns c w k.1), proper-above q w k.0)

    same_takes : (o : Status) → status_fits ns c q o ≡ true → node_takes o q d (is_root f) ≡ takes_urn o q (d ++ f)
    same_takes Open ok = same-under q q-node
    same_takes (Held w) ok = same-under w (held-node w ok).0
    same_takes Shut ok = refl

    now-fits : status_fits ns c q (get_or st.status c Open) ≡ true
    now-fits = g.fits c known

    pub step-at-node : step env st (urn c (d ++ f)) ≡ node_step env st c d (is_root f)
    unfolding node_step
    step-at-node = go (takes_urn (get_or st.status c Open) q (d ++ f)) refl
      where
        taken : (o : Status) → status_fits ns c q o ≡ true → takes_urn o q (d ++ f) ≡ true → Above q d
        taken Open ok e = lies q q-node (proper-above q (d ++ f) e)
        taken (Held w) ok e = let k = held-node w ok in above-trans k.1 (lies w k.0 (proper-above w (d ++ f) e))
        taken Shut ok e = absurd (false≢true e)

        settles : (p h : Parts) → f ≡ h → Above p d
            → open_or (same_parts p (d ++ f)) (held_if (env.inner c (d ++ f)) (d ++ f))
            ≡ open_or (is_root h && same_parts p d) (held_if (is_root h && env.inner c d) d)
        settles p [] i a = ap (λ z. open_or (same_parts p z) (held_if (env.inner c z) z)) (ap (λ z. d ++ z) i ∙ append-nil d)
        settles p (x ∷ h) i a = rw (not-past p d x h (d ++ f) a (ap (λ z. d ++ z) (sym i)), laws.inners c (d ++ f), no_node x h i)

        go : (b : Bool) → takes_urn (get_or st.status c Open) q (d ++ f) ≡ b
            → step env st (urn c (d ++ f)) ≡ node_if_taken env st c d (is_root f) (node_takes (get_or st.status c Open) q d (is_root f)) (below q d)
        go false e = step-still env st (urn c (d ++ f)) e ∙ sym (rw (same_takes (get_or st.status c Open) now-fits, e))
        go true e =
            step-takes env st (urn c (d ++ f)) (a.rest ++ f) e (sym (append_assoc q a.rest f) ∙ ap (λ z. z ++ f) a.joined)
            ∙ ap (move env st c (d ++ f)) (seek env (env.rows st.signal) c q a.rest f (rw a.joined quiet) ∙ hh.1)
            ∙ rw (
              same_takes (get_or st.status c Open) now-fits,
              e,
              at,
              hh.1,
            ) (ap (λ z. record { signal = hh.0.signal; status = set st.status c z }) (settles hh.0.at f refl h-above))
          where
            a : Above q d
            a = taken (get_or st.status c Open) now-fits e

            at : below q d ≡ some a.rest
            at = ap (below q) (sym a.joined) ∙ below_self q a.rest

            hh : (h : Hit) × (first_hit env (env.rows st.signal) c (candidates q a.rest) ≡ some h)
            hh = search-last env (env.rows st.signal) c (longer q a.rest) q st.signal (rw (set-get_or (env.rows st.signal) c []) g.live)

            h-above : Above hh.0.at d
            h-above = rw a.joined at (between q a.rest hh.0.at
                (search-hit env (env.rows st.signal) c (candidates q a.rest) hh.0 hh.1).1).1

  is_root-same : (d f u : Parts) → d ++ f ≡ u → is_root f ≡ same_parts d u
  is_root-same d [] u j = sym (ap (same_parts d) (sym j ∙ append-nil d) ∙ parts-exact.self d)
  is_root-same d (x ∷ f) u j = sym (not-past d d x f u (above-self d) j)

  -- the step of direct resolution, at the deepest node above the URN
  pub direct-at-node : (st : State) → Valid env cats ns st → (u : Urn) → u.cat < cats
      → step env st u ≡ node_step env st u.cat (deepest ns u.cat u.path) (same_parts (deepest ns u.cat u.path) u.path)
  direct-at-node st g u known =
      ap (λ z. step env st (urn u.cat z)) (sym a.joined)
      ∙ step-at-node st g u.cat known d a.rest
      (beyond env cats ns laws (env.rows st.signal) u.cat u.path a.rest (rw g.wide known) a.joined)
      (λ p n b. above-deep ns u.cat p u.path n (rw a.joined at b))
      (λ x h e. rw a.joined (past-no-node ns u.cat u.path x h (ap (λ z. d ++ z) (sym e) ∙ a.joined)))
      ∙ ap (node_step env st u.cat d) (is_root-same d a.rest u.path a.joined)
    where
      d : Parts
      d = deepest ns u.cat u.path

      a : Above d u.path
      a = deep-above ns u.cat u.path

  -- the step by a path that is longer by a part which no node has there, whichever it is
  pub fresh-at-node : (st : State) → Valid env cats ns st → (c : ℕ) → c < cats → (d : Parts) (x : Name) → is_node ns c (d ++ x ∷ []) ≡ false
      → step env st (urn c (d ++ x ∷ [])) ≡ node_step env st c d false
  fresh-at-node st g c known d x fresh = step-at-node st g c known d (x ∷ []) quiet (λ p n b. lies p n b.rest b.joined) (λ y h e. fresh)
    where
      quiet : (p : Parts) → Memᴰ p (longer d (x ∷ [])) → env.finder (set (env.rows st.signal) c p) ≡ none
      quiet p m = by (env.finder (set (env.rows st.signal) c p)) refl
        where
          no_hit : p ≡ d ++ x ∷ [] → (p ≡ []) ⊎ (is_node ns c p ≡ true) → ⊥
          no_hit i (inl k) = omega (arith, length-append d (x ∷ []), ap length i, ap length k)
          no_hit i (inr k) = true≢false (sym k ∙ ap (is_node ns c) i ∙ fresh)

          by : (o : Option ℕ) → env.finder (set (env.rows st.signal) c p) ≡ o → o ≡ none
          by none e = refl
          by (some t) e = absurd (no_hit (Memᴰ.eq_of_singleton m) (hit-node env cats ns laws (env.rows st.signal) c p t (rw g.wide known) e))

      lies : (p : Parts) → RootOrNode ns c p → (r : Parts) → p ++ r ≡ d ++ x ∷ [] → Above p d
      lies p (inl n) r j = rw n (above_root d)
      lies p (inr n) [] j = absurd (true≢false (sym n ∙ ap (is_node ns c) (sym (append-nil p) ∙ j) ∙ fresh))
      lies p (inr n) (y ∷ r) j = by (snoc-split p d y x r j)
        where
          by : (p ≡ d) ⊎ ((z : Name) × (f : Parts) × (p ++ z ∷ f ≡ d)) → Above p d
          by (inl e) = rw (← e) (above-self p)
          by (inr k) = record { rest = k.0 ∷ k.1; joined = k.2 }

  -- its category takes a URN by its deepest node alone
  pub takes-at-node : (st : State) → Valid env cats ns st → (u : Urn) → u.cat < cats
      → takes_urn (get_or st.status u.cat Open) (get_or (env.rows st.signal) u.cat []) u.path
      ≡ node_takes (get_or st.status u.cat Open) (get_or (env.rows st.signal) u.cat []) (deepest ns u.cat u.path)
      (same_parts (deepest ns u.cat u.path) u.path)
  takes-at-node st g u known =
      ap (takes_urn o (get_or (env.rows st.signal) u.cat [])) (sym a.joined)
      ∙ sym (same_takes st g u.cat known d a.rest
      (beyond env cats ns laws (env.rows st.signal) u.cat u.path a.rest (rw g.wide known) a.joined)
      (λ p n b. above-deep ns u.cat p u.path n (rw a.joined at b))
      (λ x h e. rw a.joined (past-no-node ns u.cat u.path x h (ap (λ z. d ++ z) (sym e) ∙ a.joined)))
      o (g.fits u.cat known))
      ∙ ap (node_takes o (get_or (env.rows st.signal) u.cat []) d) (is_root-same d a.rest u.path a.joined)
    where
      o : Status
      o = get_or st.status u.cat Open

      d : Parts
      d = deepest ns u.cat u.path

      a : Above d u.path
      a = deep-above ns u.cat u.path

  -- the step by a symbol, at its node or root
  pub symbol-at-node : (st : State) → Valid env cats ns st → (s : Symbol) → s.cat < cats
      → step env st (steps_as s) ≡ node_step env st s.cat s.path (not s.other)
  symbol-at-node st g s known = go s.other
    where
      go : (o : Bool) → step env st (urn s.cat (steps_as_path o s.path)) ≡ node_step env st s.cat s.path (not o)
      go false =
          ap (λ z. step env st (urn s.cat z)) (sym (append-nil s.path))
          ∙ step-at-node st g s.cat known s.path [] (λ p m. absurd (Memᴰ.not-nil m)) (λ p n b. rw append-nil at b)
          (λ x h e. let z : ◌≡◌ {A = ℕ} 0 1 = cc in absurd (omega arith))
      go true = fresh-at-node st g s.cat known s.path [] (laws.fresh-node s.cat s.path)
