-- Laws of the table of all pairs: resolving each table alone and resolving the table of pairs is the same.
use Prim.Native.Nat.{ℕ, zero, suc, ◌+◌, ◌-◌, ◌*◌, ◌<◌}
use mathlib.Core.Path.{◌≡◌, refl, sym, ap, ap₂, ◌∙◌}
use mathlib.Core.Bool.{Bool, true, false}
use mathlib.Core.Option.{Option, none, some}
use mathlib.Core.List.{List, [], ◌∷◌, map, foldl}
use lib.Dec.{ltb}
use borrow.Author.Tests.{ltb-true, ltb-false, lt-ltb, le-ltb}
use lib.ListN.{length, replicate-append-replicate}
use native.Mathlib.Omega.{arith}
use Rattle.theory_resolution.specs.Direct.{Open, State, start, step, env_of, direct, StateOf, used_of}
use Rattle.theory_resolution.proofs.TableStep.{state-start, state-step, state-direct, state-signal}
use Rattle.theory_resolution.specs.Table.{Urn, urn, Table, WellFormed}
use Rattle.theory_pairs.specs.Pairs.{Known, shifted, pairs, pair_number, ring_uri, lamp_uri, pair_uri, pair_by, ring_alone, lamp_alone, pair_state}
use Rattle.theory_pairs.proofs.PairStep.{ring-step, lamp-step}

module _ (ring lamp : Table) (known : Known ring) (wr : WellFormed ring) (wl : WellFormed lamp) where
  abbrev n : ℕ
  n = ring.cats

  abbrev both : Table
  both = pairs ring lamp

  -- over whole lists
  pair-run : (sr sl : State) → StateOf ring sr → StateOf lamp sl → (l : List (Option Urn))
      → foldl (step (env_of both)) (pair_state lamp sr sl) (used_of l)
      ≡ pair_state lamp (foldl (step (env_of ring)) sr (used_of (map (ring_uri n) l))) (foldl (step (env_of lamp)) sl (used_of (map (lamp_uri n) l)))
  pair-run sr sl gr gl [] = refl
  pair-run sr sl gr gl (none ∷ l) = pair-run sr sl gr gl l
  pair-run sr sl gr gl (some u ∷ l) =
      go (ltb u.cat n) refl
      (pair-run (step (env_of ring) sr u) sl (state-step ring wr sr u gr) gl l)
      (pair-run sr (step (env_of lamp) sl v) gr (state-step lamp wl sl v gl) l)
    where
      v : Urn
      v = urn (u.cat - n) u.path

      over : State → Type 0
      over st = foldl (step (env_of both)) st (used_of l)
          ≡ pair_state lamp (foldl (step (env_of ring)) sr (used_of (map (ring_uri n) (some u ∷ l))))
          (foldl (step (env_of lamp)) sl (used_of (map (lamp_uri n) (some u ∷ l))))

      go : (b : Bool) → ltb u.cat n ≡ b
          → (foldl (step (env_of both)) (pair_state lamp (step (env_of ring) sr u) sl) (used_of l)
          ≡ pair_state lamp (foldl (step (env_of ring)) (step (env_of ring) sr u) (used_of (map (ring_uri n) l)))
          (foldl (step (env_of lamp)) sl (used_of (map (lamp_uri n) l))))
          → (foldl (step (env_of both)) (pair_state lamp sr (step (env_of lamp) sl v)) (used_of l)
          ≡ pair_state lamp (foldl (step (env_of ring)) sr (used_of (map (ring_uri n) l))) (foldl (step (env_of lamp)) (step (env_of lamp) sl v)
          (used_of (map (lamp_uri n) l))))
          → over (step (env_of both) (pair_state lamp sr sl) u)
      go true e ih jh = rw (e, ring-step ring lamp known wr wl sr sl gr gl u (ltb-true u.cat n e)) ih
      go false e ih jh =
          let h = ltb-false u.cat n e in
          let k : n + (u.cat - n) ≡ u.cat = omega arith in
          let i : shifted n v ≡ u = λ j. record { cat = k j; path = u.path } in
          let q : step (env_of both) (pair_state lamp sr sl) u ≡ pair_state lamp sr (step (env_of lamp) sl v) =
          ap (step (env_of both) (pair_state lamp sr sl)) (sym i) ∙ lamp-step ring lamp known wr wl sr sl gr gl v in
          rw (e, q) jh

  pair-start : start both.cats ≡ pair_state lamp (start n) (start lamp.cats)
  pair-start =
      let e : 0 ≡ pair_number lamp 0 0 = omega arith in
      let f = sym (replicate-append-replicate n lamp.cats Open) in
      λ i. record { signal = e i; status = f i }

  pub pair-states : (l : List (Option Urn)) → direct both (used_of l) ≡ pair_state lamp (ring_alone ring l) (lamp_alone ring lamp l)
  pair-states l =
      ap (λ z. foldl (step (env_of both)) z (used_of l)) pair-start
      ∙ pair-run (start n) (start lamp.cats) (state-start ring wr) (state-start lamp wl) l

-- no number is that of two pairs
pub pair_one : (w r l s k : ℕ) → l < w → k < w → r * w + l ≡ s * w + k → (r ≡ s) × (l ≡ k)
pair_one w zero l zero k a b e = (refl, omega arith)
pair_one w zero l (suc s) k a b e = absurd (omega arith)
pair_one w (suc r) l zero k a b e = absurd (omega arith)
pair_one w (suc r) l (suc s) k a b e = let h = pair_one w r l s k a b (omega arith) in (ap suc h.0, h.1)

-- a URI that at most one of the tables uses, and the ring table in one of its categories, is what each takes
pub pair-uri : (n : ℕ) (a b : Option Urn) → ((u : Urn) → a ≡ some u → u.cat < n) → ((u v : Urn) → a ≡ some u → b ≡ some v → ⊥)
    → (ring_uri n (pair_uri n a b) ≡ a) × (lamp_uri n (pair_uri n a b) ≡ b)
pair-uri n none none h k = (refl, refl)
pair-uri n none (some v) h k =
    let e : n + v.cat - n ≡ v.cat = omega arith in
    let f : urn (n + v.cat - n) v.path ≡ v = λ i. record { cat = e i; path = v.path } in
    rw (le-ltb (n + v.cat) n (omega arith)) (refl, ap some f)
pair-uri n (some u) none h k = rw (lt-ltb u.cat n (h u refl)) (refl, refl)
pair-uri n (some u) (some v) h k = absurd (k u v refl refl)

-- over a list: what each table takes the URIs for
module _ {W : Type 0} (n : ℕ) (f g : W → Option Urn) (own : (w : W) (u : Urn) → f w ≡ some u → u.cat < n) (apart : (w : W) (u v : Urn)
    → f w ≡ some u → g w ≡ some v → ⊥) where
  ring-view : (ws : List W) → map (ring_uri n) (map (pair_by n f g) ws) ≡ map f ws
  ring-view [] = refl
  ring-view (w ∷ ws) = ap₂ ◌∷◌ (pair-uri n (f w) (g w) (own w) (apart w)).0 (ring-view ws)

  lamp-view : (ws : List W) → map (lamp_uri n) (map (pair_by n f g) ws) ≡ map g ws
  lamp-view [] = refl
  lamp-view (w ∷ ws) = ap₂ ◌∷◌ (pair-uri n (f w) (g w) (own w) (apart w)).1 (lamp-view ws)

module _ (ring lamp : Table) (known : Known ring) (wr : WellFormed ring) (wl : WellFormed lamp) where
  -- the signal is the number of the pair
  pub pair-agrees : (l : List (Option Urn)) → (direct (pairs ring lamp) (used_of l)).signal ≡ pair_number lamp (ring_alone ring l).signal
      (lamp_alone ring lamp l).signal
  pair-agrees l = ap (λ st. st.signal) (pair-states ring lamp known wr wl l)

  -- and of no other pair
  pub pair-only : (l : List (Option Urn)) (r k : ℕ) → k < length lamp.signals → (direct (pairs ring lamp) (used_of l)).signal ≡ pair_number lamp r k
      → ((ring_alone ring l).signal ≡ r) × ((lamp_alone ring lamp l).signal ≡ k)
  pair-only l r k h e =
      pair_one (length lamp.signals) (ring_alone ring l).signal (lamp_alone ring lamp l).signal r k
      (state-signal lamp (lamp_alone ring lamp l) (state-direct lamp wl (used_of (map (lamp_uri ring.cats) l)))) h (sym (pair-agrees l) ∙ e)

  -- by what each table takes the URIs for
  pub pair-agrees-by : {W : Type 0} (f g : W → Option Urn) → ((w : W) (u : Urn) → f w ≡ some u → u.cat < ring.cats)
      → ((w : W) (u v : Urn) → f w ≡ some u → g w ≡ some v → ⊥)
      → (ws : List W) → (direct (pairs ring lamp) (used_of (map (pair_by ring.cats f g) ws))).signal
      ≡ pair_number lamp (direct ring (used_of (map f ws))).signal (direct lamp (used_of (map g ws))).signal
  pair-agrees-by f g own apart ws =
      pair-agrees (map (pair_by ring.cats f g) ws)
      ∙ ap₂ (λ x y. pair_number lamp (direct ring (used_of x)).signal (direct lamp (used_of y)).signal)
      (ring-view ring.cats f g own apart ws) (lamp-view ring.cats f g own apart ws)
