-- Laws of the step over a table's nodes: when it stays, what it takes, what it keeps, and that nothing is found past
-- the deepest node.
use Prim.Native.Nat.{ℕ, ◌<◌}
use mathlib.Core.Path.{◌≡◌, refl, sym, ap, ◌∙◌}
use mathlib.Core.Logic.{◌⊎◌, inl, inr, ◌≢◌}
use mathlib.Core.Bool.{Bool, true, false, and-eq-true_iff}
use mathlib.Core.Option.{Option, none, some}
use mathlib.Core.List.{List, [], ◌∷◌, ◌++◌, append_assoc, append-nil, Memᴰ}
use lib.ListN.{length, get_or, set, length-append, length-set}
use lib.Seq.{set-get_or, get_or-set_same, get_or-set_other}
use native.Mathlib.Omega.{arith}
use native.Mathlib.Decide.{ℕ_discrete}
use Rattle.theory_resolution.specs.Names.{Parts, same_parts, below, proper_ancestor, longer, candidates, Above}
use Rattle.theory_resolution.proofs.Names.{below_self, longer-append, Strict, in-longer, proper-rest}
use Rattle.theory_resolution.specs.Table.{Urn, Row}
use Rattle.theory_resolution.specs.Direct.{Status, Open, Shut, State, first_hit, held_if, open_or, status_after, status_fits, takes_urn, move, step, Env}
use Rattle.theory_resolution.proofs.Direct.{search-skip, Moved, step-view, live-step, same-signal, moved_row}
use Rattle.theory_resolution.specs.Nodes.{is_node, RootOrNode, is_inner, leaf, deepest}
use Rattle.theory_resolution.proofs.Deepest.{deep-most, leaf-ends}

module _ (env : Env) where
  abbrev next : State → Urn → State
  next = step env

  abbrev here : State → ℕ → Parts
  here st c = get_or (env.rows st.signal) c []

  -- a URN that its category does not take changes nothing
  pub step-still : (st : State) (u : Urn) → takes_urn (get_or st.status u.cat Open) (here st u.cat) u.path ≡ false → next st u ≡ st
  unfolding step
  step-still st u e = rw e

  -- so a shut category takes none
  pub step-shut : (st : State) (u : Urn) → get_or st.status u.cat Open ≡ Shut → next st u ≡ st
  step-shut st u e = step-still st u (ap (λ (o : Status). takes_urn o (here st u.cat) u.path) e)

  pub step-takes : (st : State) (u : Urn) (r : Parts) → takes_urn (get_or st.status u.cat Open) (here st u.cat) u.path ≡ true
      → here st u.cat ++ r ≡ u.path
      → next st u ≡ move env st u.cat u.path (first_hit env (env.rows st.signal) u.cat (candidates (here st u.cat) r))
  unfolding step
  step-takes st u r e j = let b : below (here st u.cat) u.path ≡ some r = rw (← j) (below_self (here st u.cat) r) in rw (e, b)

  -- other categories' statuses stay
  pub status-other : (st : State) (u : Urn) (c : ℕ) → c ≢ u.cat → get_or (next st u).status c Open ≡ get_or st.status c Open
  status-other st u c n = go (step-view env st u)
    where
      go : (next st u ≡ st) ⊎ Moved env st u → get_or (next st u).status c Open ≡ get_or st.status c Open
      go (inl e) = rw e
      go (inr m) = rw m.result (get_or-set_other st.status u.cat c (status_after env u.cat u.path m.hit) Open n)

  pub status-length : (st : State) (u : Urn) → length (next st u).status ≡ length st.status
  status-length st u = go (step-view env st u)
    where
      go : (next st u ≡ st) ⊎ Moved env st u → length (next st u).status ≡ length st.status
      go (inl e) = rw e
      go (inr m) = rw m.result (length-set st.status u.cat (status_after env u.cat u.path m.hit))

  -- paths past q ++ e that have no signal do not matter to the search
  pub seek : (row : Row) (c : ℕ) (q e g : Parts) → ((p : Parts) → Memᴰ p (longer (q ++ e) g) → env.finder (set row c p) ≡ none)
      → first_hit env row c (candidates q (e ++ g)) ≡ first_hit env row c (candidates q e)
  seek row c q e g quiet =
      ap (λ l. first_hit env row c (l ++ q ∷ [])) (longer-append q e g)
      ∙ ap (first_hit env row c) (append_assoc (longer (q ++ e) g) (longer q e) (q ∷ []))
      ∙ search-skip env row c (longer (q ++ e) g) (candidates q e) quiet

-- what the symbols' step needs of the rows, the finder and the nodes
pub record EnvLaws (env : Env) (cats : ℕ) (ns : List Urn) : Type 0 where
  pub sound : (r : Row) (s : ℕ) → env.finder r ≡ some s → env.rows s ≡ r
  pub noded : (r : Row) (s c : ℕ) → env.finder r ≡ some s → RootOrNode ns c (get_or r c [])
  pub inners : (c : ℕ) (p : Parts) → env.inner c p ≡ is_inner ns c p
  pub fresh-node : (c : ℕ) (d : Parts) → is_node ns c (d ++ [] ∷ []) ≡ false

module _ (env : Env) (cats : ℕ) (ns : List Urn) where
  -- the signal is what the finder finds at its places, and there is a place and a status for each category, one that it
  -- can have there
  pub record Valid (st : State) : Type 0 where
    pub live : env.finder (env.rows st.signal) ≡ some st.signal
    pub wide : length (env.rows st.signal) ≡ cats
    pub sized : length st.status ≡ cats
    pub fits : (c : ℕ) → c < cats → status_fits ns c (get_or (env.rows st.signal) c []) (get_or st.status c Open) ≡ true

  abbrev at : ℕ → List Status → State
  at s σ = record { signal = s; status = σ }

  module _ (laws : EnvLaws env cats ns) where
    pub valid-step : (st : State) (u : Urn) → Valid st → Valid (step env st u)
    valid-step st u g =
        record {
          live = live-step env laws.sound st u g.live;
          wide = wide (step-view env st u);
          sized = status-length env st u ∙ g.sized;
          fits = λ k h. fits k h (step-view env st u);
        }
      where
        -- the status after a hit at or above u fits the place that was hit
        settles : (c : ℕ) (p w : Parts) → Above p w → (s : Bool) → same_parts p w ≡ s → (b : Bool) → env.inner c w ≡ b
            → status_fits ns c p (open_or s (held_if b w)) ≡ true
        settles c p w a true e b i = refl
        settles c p w a false e true i = (and-eq-true_iff (proper_ancestor p w) (is_inner ns c w)).1 (proper-rest p w a e, sym (laws.inners c w) ∙ i)
        settles c p w a false e false i = refl

        after : (k : ℕ) → k < cats → (m : Moved env st u) → Dec (k ≡ u.cat)
            → status_fits ns k (get_or (set (env.rows st.signal) u.cat m.hit.at) k [])
            (get_or (set st.status u.cat (status_after env u.cat u.path m.hit)) k Open) ≡ true
        after k h m (yes e) =
            let b : u.cat < cats = rw (← e) h in
            rw (
              e,
              get_or-set_same (env.rows st.signal) u.cat m.hit.at [] (rw g.wide b),
              get_or-set_same st.status u.cat (status_after env u.cat u.path m.hit) Open (rw g.sized b),
            )
            (settles u.cat m.hit.at u.path m.down (same_parts m.hit.at u.path) refl (env.inner u.cat u.path) refl)
        after k h m (no n) =
            rw (
              get_or-set_other (env.rows st.signal) u.cat k m.hit.at [] n,
              get_or-set_other st.status u.cat k (status_after env u.cat u.path m.hit) Open n,
            )
            (g.fits k h)

        fits : (k : ℕ) → k < cats → (step env st u ≡ st) ⊎ Moved env st u
            → status_fits ns k (get_or (env.rows (step env st u).signal) k []) (get_or (step env st u).status k Open) ≡ true
        fits k h (inl e) = rw e (g.fits k h)
        fits k h (inr m) = rw (m.result, laws.sound (set (env.rows st.signal) u.cat m.hit.at) m.hit.signal m.got)
            (after k h m (ℕ_discrete k u.cat))

        wide : (step env st u ≡ st) ⊎ Moved env st u → length (env.rows (step env st u).signal) ≡ cats
        wide (inl e) = rw e g.wide
        wide (inr m) = rw (moved_row env laws.sound st u m) (length-set (env.rows st.signal) u.cat m.hit.at ∙ g.wide)

    pub hit-node : (row : Row) (c : ℕ) (p : Parts) (s : ℕ) → c < length row → env.finder (set row c p) ≡ some s → RootOrNode ns c p
    hit-node row c p s h f = rw (get_or-set_same row c p [] h) at (laws.noded (set row c p) s c f)

    -- below a leaf nothing moves
    pub leaf-stays : (st : State) (u : Urn) → Valid st → u.cat < cats → leaf ns u.cat (get_or (env.rows st.signal) u.cat []) ≡ true
        → (step env st u).signal ≡ st.signal
    leaf-stays st u g b l = go (step-view env st u)
      where
        q : Parts
        q = get_or (env.rows st.signal) u.cat []

        by : (m : Moved env st u) (e : Parts) → q ++ e ≡ m.hit.at → (step env st u).signal ≡ st.signal
        by m [] j = same-signal env laws.sound st u g.live m (rw (← j, append-nil) (set-get_or (env.rows st.signal) u.cat []))
        by m (x ∷ e) j = absurd (no_way (hit-node (env.rows st.signal) u.cat m.hit.at m.hit.signal (rw g.wide b) m.got))
          where
            no_way : (m.hit.at ≡ []) ⊎ (is_node ns u.cat m.hit.at ≡ true) → ⊥
            no_way (inl k) = omega (arith, length-append q (x ∷ e), ap length j, ap length k)
            no_way (inr k) = leaf-ends ns u.cat q x e l (rw j k)

        go : (step env st u ≡ st) ⊎ Moved env st u → (step env st u).signal ≡ st.signal
        go (inl e) = ap (λ x. x.signal) e
        go (inr m) = by m m.up.rest m.up.joined

    -- past the deepest node there is no signal
    pub beyond : (row : Row) (c : ℕ) (u f : Parts) → c < length row → deepest ns c u ++ f ≡ u
        → (p : Parts) → Memᴰ p (longer (deepest ns c u) f) → env.finder (set row c p) ≡ none
    beyond row c u f b j p m = go (env.finder (set row c p)) refl
      where
        t : Strict (deepest ns c u) f p
        t = in-longer (deepest ns c u) f p m

        p-above : Above p u
        p-above = record {
          rest = t.last;
          joined = ap (λ l. l ++ t.last) (sym t.is) ∙ append_assoc (deepest ns c u) (t.head ∷ t.mid) t.last
              ∙ ap (λ l. deepest ns c u ++ l) t.on ∙ j;
        }

        no_way : (p ≡ []) ⊎ (is_node ns c p ≡ true) → ⊥
        no_way (inl k) = omega (arith, length-append (deepest ns c u) (t.head ∷ t.mid), ap length t.is, ap length k)
        no_way (inr k) =
            let a = deep-most ns c p u k p-above in
            omega (arith, length-append (deepest ns c u) (t.head ∷ t.mid), ap length t.is, length-append p a.rest, ap length a.joined)

        go : (o : Option ℕ) → env.finder (set row c p) ≡ o → o ≡ none
        go none e = refl
        go (some s) e = absurd (no_way (hit-node row c p s b e))
