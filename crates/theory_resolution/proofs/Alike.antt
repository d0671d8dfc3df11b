-- Direct resolution by URNs and by their symbols gives the same signals.
use Prim.Native.Nat.{ℕ, ◌<◌}
use mathlib.Core.Path.{◌≡◌, refl, sym, ap, subst, ◌∙◌}
use mathlib.Core.Logic.{◌⊎◌, inl, inr}
use mathlib.Core.Bool.{Bool, true, false, not, ◌&&◌, ◌||◌, true≢false, and-eq-true_iff, or-true}
use mathlib.Core.Option.{Option, none, some}
use mathlib.Core.List.{List, [], ◌∷◌, foldl, append-nil, Memᴰ}
use lib.ListN.{get_or, set}
use lib.Seq.{get_or-set_same, get_or-set_other}
use native.Mathlib.Decide.{ℕ_discrete}
use Rattle.theory_resolution.specs.Names.{Parts, same_parts, below, proper_ancestor, candidates}
use Rattle.theory_resolution.proofs.Names.{parts-exact, below-to}
use Rattle.theory_resolution.specs.Table.{Urn}
use Rattle.theory_resolution.specs.Nodes.{is_inner, leaf, deepest}
use Rattle.theory_resolution.specs.Direct.{Status, Open, Held, Shut, State, Env, Hit, first_hit, held_if, open_or, status_fits, step}
use Rattle.theory_resolution.proofs.Direct.{search-hit}
use Rattle.theory_resolution.specs.Symbols.{is_other, symbol_of, steps_as}
use Rattle.theory_resolution.proofs.Deepest.{leaf-no-inner, inner-no-leaf}
use Rattle.theory_resolution.proofs.Step.{EnvLaws, Valid, valid-step, leaf-stays, status-other}
use Rattle.theory_resolution.specs.NodeStep.{node_under, node_takes, node_move, node_if_taken, node_step}
use Rattle.theory_resolution.proofs.NodeStep.{direct-at-node, symbol-at-node}

-- a URN under a leaf has the leaf's own symbol, not Other
pub leaf-own : (ns : List Urn) (c : ℕ) (u d : Parts) → leaf ns c d ≡ true → is_other ns c u d ≡ false
leaf-own ns c u d l = ap not (ap (λ z. same_parts d u || z) l ∙ or-true (same_parts d u))

-- a URN and its symbol are whole alike, or d is a leaf and only the symbol is
whole-alike : (ns : List Urn) (c : ℕ) (u d : Parts)
    → (same_parts d u ≡ not (is_other ns c u d)) ⊎ ((same_parts d u ≡ false) × (not (is_other ns c u d) ≡ true) × (leaf ns c d ≡ true))
whole-alike ns c u d = go (same_parts d u) refl (leaf ns c d) refl
  where
    go : (s : Bool) → same_parts d u ≡ s → (l : Bool) → leaf ns c d ≡ l
        → (same_parts d u ≡ not (is_other ns c u d)) ⊎ ((same_parts d u ≡ false) × (not (is_other ns c u d) ≡ true) × (leaf ns c d ≡ true))
    go true e l k = inl (rw e)
    go false e true k = inr (e, ap not (leaf-own ns c u d k), k)
    go false e false k = rw (e, k) (inl refl)

module _ (env : Env) (cats : ℕ) (ns : List Urn) where
  -- statuses agree, but where the place is a leaf
  abbrev pub Each : ℕ → List Status → List Status → Type 0
  Each s σ τ = (c : ℕ) → c < cats → (get_or σ c Open ≡ get_or τ c Open) ⊎ (leaf ns c (get_or (env.rows s) c []) ≡ true)

  -- the same signal, and such statuses
  pub record Alike (a b : State) : Type 0 where
    pub same : a.signal ≡ b.signal
    pub each : Each a.signal a.status b.status

  abbrev at : ℕ → List Status → State
  at s σ = record { signal = s; status = σ }

  module _ (laws : EnvLaws env cats ns) where
    -- one signal with two lists of statuses, in category c
    module _ (s : ℕ) (σ τ : List Status) (c : ℕ) (known : c < cats) (ga : Valid env cats ns (at s σ)) (gb : Valid env cats ns (at s τ))
        (each : Each s σ τ) where
      abbrev q : Parts
      q = get_or (env.rows s) c []

      -- both take the same hit
      both-move : (h : Hit) (x y : Status) → env.finder (set (env.rows s) c h.at) ≡ some h.signal → (x ≡ y) ⊎ (leaf ns c h.at ≡ true)
          → Alike (at h.signal (set σ c x)) (at h.signal (set τ c y))
      both-move h x y f w = record { same = refl; each = λ k b. go k (ℕ_discrete k c) (each k b) w }
        where
          after : env.rows h.signal ≡ set (env.rows s) c h.at
          after = laws.sound (set (env.rows s) c h.at) h.signal f

          go : (k : ℕ) → Dec (k ≡ c) → (get_or σ k Open ≡ get_or τ k Open) ⊎ (leaf ns k (get_or (env.rows s) k []) ≡ true) → (x ≡ y) ⊎ (leaf ns c h.at ≡ true)
              → (get_or (set σ c x) k Open ≡ get_or (set τ c y) k Open) ⊎ (leaf ns k (get_or (env.rows h.signal) k []) ≡ true)
          go k (yes e) z (inl w) = inl (rw (e, get_or-set_same σ c x Open (rw ga.sized known), get_or-set_same τ c y Open (rw gb.sized known)) w)
          go k (yes e) z (inr w) = inr (rw (after, e, get_or-set_same (env.rows s) c h.at [] (rw ga.wide known)) w)
          go k (no n) (inl z) w = inl (get_or-set_other σ c k x Open n ∙ z ∙ sym (get_or-set_other τ c k y Open n))
          go k (no n) (inr z) w = inr (rw (after, get_or-set_other (env.rows s) c k h.at [] n) z)

      both-still : Alike (at s σ) (at s τ)
      both-still = record { same = refl; each = each }

      -- steps at one node keep the states alike, also where the node is a leaf and is whole for the second alone
      node_alike : (d : Parts) (a b : Bool) → (a ≡ b) ⊎ ((a ≡ false) × (b ≡ true) × (leaf ns c d ≡ true)) → leaf ns c q ≡ false → get_or σ c Open ≡ get_or τ c Open
          → Alike (node_step env (at s σ) c d a) (node_step env (at s τ) c d b)
      unfolding node_step
      node_alike d a b w l e = rw (← e) (gates (node_takes (get_or σ c Open) q d a) (node_takes (get_or σ c Open) q d b)
          (takes (get_or σ c Open) (ga.fits c known)) (below q d))
        where
          under : (p : Parts) → leaf ns c p ≡ false → (r : Option Parts) → below p d ≡ r
              → (a ≡ b) ⊎ ((a ≡ false) × (b ≡ true) × (leaf ns c d ≡ true)) → node_under r a ≡ node_under r b
          under p m r j (inl w) = rw w
          under p m none j (inr w) = refl
          under p m (some []) j (inr w) = absurd (true≢false (sym w.2 ∙ ap (leaf ns c) (sym (below-to p d [] j) ∙ append-nil p) ∙ m))
          under p m (some (x ∷ r)) j (inr w) = refl

          takes : (o : Status) → status_fits ns c q o ≡ true → node_takes o q d a ≡ node_takes o q d b
          takes Open ok = under q l (below q d) refl w
          takes (Held v) ok = under v (inner-no-leaf ns c v ((and-eq-true_iff (proper_ancestor q v) (is_inner ns c v)).0 ok).1) (below v d) refl w
          takes Shut ok = refl

          settles : (h : Hit) → (a ≡ b) ⊎ ((a ≡ false) × (b ≡ true) × (leaf ns c d ≡ true))
              → (open_or (a && same_parts h.at d) (held_if (a && env.inner c d) d)
              ≡ open_or (b && same_parts h.at d) (held_if (b && env.inner c d) d)) ⊎ (leaf ns c h.at ≡ true)
          settles h (inl w) = inl (rw w)
          settles h (inr w) = rw (w.0, w.1, laws.inners c d, leaf-no-inner ns c d w.2) (to (same_parts h.at d) refl)
            where
              to : (z : Bool) → same_parts h.at d ≡ z → (Shut ≡ open_or z Shut) ⊎ (leaf ns c h.at ≡ true)
              to true i = inr (ap (leaf ns c) (parts-exact.to h.at d i) ∙ w.2)
              to false i = inl refl

          taken : (r : Parts) (o : Option Hit) → first_hit env (env.rows s) c (candidates q r) ≡ o
              → Alike (node_move env (at s σ) c d a o) (node_move env (at s τ) c d b o)
          taken r none f = both-still
          taken r (some h) f = both-move h _ _ (search-hit env (env.rows s) c (candidates q r) h f).0 (settles h w)

          gates : (ta tb : Bool) → ta ≡ tb → (r : Option Parts) → Alike (node_if_taken env (at s σ) c d a ta r) (node_if_taken env (at s τ) c d b tb r)
          gates false tb k r = rw (← k) both-still
          gates true tb k none = rw (← k) both-still
          gates true tb k (some r) = rw (← k) (taken r (first_hit env (env.rows s) c (candidates q r)) refl)

    -- a URN and its symbol, from one signal
    module _ (s : ℕ) (σ τ : List Status) (u : Urn) (known : u.cat < cats) (ga : Valid env cats ns (at s σ))
        (gb : Valid env cats ns (at s τ)) (each : Each s σ τ) where
      abbrev na : State
      na = step env (at s σ) u

      abbrev nb : State
      nb = step env (at s τ) (steps_as (symbol_of ns u))

      -- at a leaf the signals stay, and the statuses may differ there
      at_leaf : leaf ns u.cat (get_or (env.rows s) u.cat []) ≡ true → Alike na nb
      at_leaf l = record { same = ea ∙ sym eb; each = λ k h. go k (ℕ_discrete k u.cat) (each k h) }
        where
          ea : na.signal ≡ s
          ea = leaf-stays env cats ns laws (at s σ) u ga known l

          eb : nb.signal ≡ s
          eb = leaf-stays env cats ns laws (at s τ) (steps_as (symbol_of ns u)) gb known l

          go : (k : ℕ) → Dec (k ≡ u.cat) → (get_or σ k Open ≡ get_or τ k Open) ⊎ (leaf ns k (get_or (env.rows s) k []) ≡ true)
              → (get_or na.status k Open ≡ get_or nb.status k Open) ⊎ (leaf ns k (get_or (env.rows na.signal) k []) ≡ true)
          go k (yes e) w = inr (rw (ea, e) l)
          go k (no n) (inl w) = inl (status-other env (at s σ) u k n ∙ w ∙ sym (status-other env (at s τ) (steps_as (symbol_of ns u)) k n))
          go k (no n) (inr w) = inr (rw ea w)

      pub alike-one : Alike na nb
      alike-one = go (leaf ns u.cat (get_or (env.rows s) u.cat [])) refl (each u.cat known)
        where
          d : Parts
          d = deepest ns u.cat u.path

          go : (b : Bool) → leaf ns u.cat (get_or (env.rows s) u.cat []) ≡ b
              → (get_or σ u.cat Open ≡ get_or τ u.cat Open) ⊎ (leaf ns u.cat (get_or (env.rows s) u.cat []) ≡ true) → Alike na nb
          go true l w = at_leaf l
          go false l (inr m) = absurd (true≢false (sym m ∙ l))
          go false l (inl e) =
              rw (direct-at-node env cats ns laws (at s σ) ga u known, symbol-at-node env cats ns laws (at s τ) gb (symbol_of ns u) known)
              (node_alike s σ τ u.cat known ga gb each d (same_parts d u.path) (not (is_other ns u.cat u.path d))
              (whole-alike ns u.cat u.path d) l e)

    -- a step by a URN and a step by its symbol keep states alike
    pub alike-step : (a b : State) (u : Urn) → u.cat < cats → Valid env cats ns a → Valid env cats ns b → Alike a b
        → Alike (step env a u) (step env b (steps_as (symbol_of ns u)))
    alike-step a b u known ga gb w =
        subst
        (λ s. Valid env cats ns (at s a.status) → Each s a.status b.status
        → Alike (step env (at s a.status) u) (step env b (steps_as (symbol_of ns u))))
        (sym w.same)
        (λ g x. alike-one b.signal a.status b.status u known g gb x)
        ga
        w.each

    -- and so over whole lists
    pub alike-run : (a b : State) (us : List Urn) → ((u : Urn) → Memᴰ u us → u.cat < cats) → Valid env cats ns a → Valid env cats ns b → Alike a b
        → Alike (foldl (step env) a us) (foldl (λ st u. step env st (steps_as (symbol_of ns u))) b us)
    alike-run a b [] known ga gb w = w
    alike-run a b (u ∷ us) known ga gb w =
        alike-run (step env a u) (step env b (steps_as (symbol_of ns u))) us (λ x m. known x (Memᴰ.tail m))
        (valid-step env cats ns laws a u ga) (valid-step env cats ns laws b (steps_as (symbol_of ns u)) gb)
        (alike-step a b u (known u (Memᴰ.head refl)) ga gb w)
