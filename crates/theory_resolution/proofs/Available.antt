-- Laws of resolution among the available signals.
use Prim.Native.Nat.{ℕ, zero, suc, ◌+◌, ◌<◌}
use mathlib.Core.Path.{◌≡◌, refl, sym, ap, ◌∙◌}
use mathlib.Core.Bool.{Bool, true, false, cond, ◌&&◌, and-eq-true_iff}
use mathlib.Core.Option.{none, some}
use mathlib.Core.List.{List, [], ◌∷◌, foldl}
use lib.ListN.{length, get_or, length-replicate, get_or-replicate}
use native.Mathlib.Omega.{arith}
use Rattle.theory_resolution.specs.Names.{same_parts}
use Rattle.theory_resolution.specs.Table.{Urn, Table, Row, row_from, row_of, same_row, find_from, find, WellFormed}
use Rattle.theory_resolution.specs.Nodes.{nodes, RootOrNode, deepest}
use Rattle.theory_resolution.specs.Direct.{Open, State, start, Env, env_by, step, direct}
use Rattle.theory_resolution.specs.NodeStep.{node_step}
use Rattle.theory_resolution.specs.Available.{counts, find_available_from, find_available, env_available, direct_available, Stands, AvailableState}
use Rattle.theory_resolution.specs.Available.{AvailableLaw}
use Rattle.theory_resolution.proofs.Names.{row-exact}
use Rattle.theory_resolution.proofs.Table.{row-length}
use Rattle.theory_resolution.proofs.Nodes.{row-nodes, fresh-node}
use Rattle.theory_resolution.proofs.Direct.{live-run}
use Rattle.theory_resolution.proofs.Says.{says-only-given, still-says, few-changes}
use Rattle.theory_resolution.proofs.Step.{EnvLaws, Valid, valid-step}
use Rattle.theory_resolution.proofs.NodeStep.{direct-at-node}

module _ (on : ℕ → Bool) (n : ℕ) where
  -- the signal at index k of a list that is counted from i is available and has these places
  abbrev StandsAt : ℕ → List (List Urn) → Row → ℕ → Type 0
  StandsAt i sigs r k = (k < length sigs) × (counts on (i + k) ≡ true) × (row_from (get_or sigs k []) 0 n ≡ r)

  -- one that stands is not passed over
  passed : (i : ℕ) (sig : List Urn) (r : Row) → counts on i && same_row (row_from sig 0 n) r ≡ false → counts on (i + 0) ≡ true → row_from sig 0 n ≡ r → ⊥
  passed i sig r h a p =
      let j : i + 0 ≡ i = omega arith in
      let c : counts on i ≡ true = rw j at a in
      let z : true ≡ false = rw (c, p, row-exact.self r) at h in
      let y : ◌≡◌ {A = ℕ} 0 1 = cc in
      omega arith

  later : (i k : ℕ) (sig : List Urn) (sigs : List (List Urn)) (r : Row) → StandsAt i (sig ∷ sigs) r (suc k) → StandsAt (suc i) sigs r k
  later i k sig sigs r w = let j : i + suc k ≡ suc i + k = omega arith in (omega (arith, w.0), rw j at w.1, w.2)

  not_none : (i : ℕ) (sigs : List (List Urn)) (r : Row) → find_available_from on n i sigs r ≡ none → (k : ℕ) → StandsAt i sigs r k → ⊥
  not_none i [] r e k w = omega (arith, w.0)
  not_none i (sig ∷ sigs) r e k w = go (counts on i && same_row (row_from sig 0 n) r) refl e (not_none (suc i) sigs r)
    where
      go : (b : Bool) → counts on i && same_row (row_from sig 0 n) r ≡ b → cond b (some i) (find_available_from on n (suc i) sigs r) ≡ none
          → (find_available_from on n (suc i) sigs r ≡ none → (k : ℕ) → StandsAt (suc i) sigs r k → ⊥) → ⊥
      go true q f ih = let y : ◌≡◌ {A = ℕ} 0 1 = cc in omega arith
      go false q f ih = by k w
        where
          by : (k : ℕ) → StandsAt i (sig ∷ sigs) r k → ⊥
          by zero w = passed i sig r q w.1 w.2
          by (suc k) w = ih f k (later i k sig sigs r w)

  -- what the search finds: the first that stands
  record FoundAt (i : ℕ) (sigs : List (List Urn)) (r : Row) (s : ℕ) : Type 0 where
    index : ℕ
    number : s ≡ i + index
    stands : StandsAt i sigs r index
    first : (k : ℕ) → k < index → StandsAt i sigs r k → ⊥

  found_at : (i : ℕ) (sigs : List (List Urn)) (r : Row) (s : ℕ) → find_available_from on n i sigs r ≡ some s → FoundAt i sigs r s
  found_at i [] r s e = let z : ◌≡◌ {A = ℕ} 0 1 = cc in absurd (omega arith)
  found_at i (sig ∷ sigs) r s e = go (counts on i && same_row (row_from sig 0 n) r) refl e (found_at (suc i) sigs r s)
    where
      go : (b : Bool) → counts on i && same_row (row_from sig 0 n) r ≡ b → cond b (some i) (find_available_from on n (suc i) sigs r) ≡ some s
          → (find_available_from on n (suc i) sigs r ≡ some s → FoundAt (suc i) sigs r s) → FoundAt i (sig ∷ sigs) r s
      go true h e' ih =
          let e₁ : i ≡ s = cc in
          let z : i ≡ i + 0 = omega arith in
          let k = (and-eq-true_iff (counts on i) (same_row (row_from sig 0 n) r)).0 h in
          record {
            index = 0;
            number = sym e₁ ∙ z;
            stands = (omega arith, rw z at k.0, row-exact.to (row_from sig 0 n) r k.1);
            first = λ k l. absurd (omega arith);
          }
      go false h e' ih = let f = ih e' in record { index = suc f.index; number = omega (arith, f.number); stands = shift f; first = λ k l w. by f k l w }
        where
          shift : (f : FoundAt (suc i) sigs r s) → StandsAt i (sig ∷ sigs) r (suc f.index)
          shift f = let j : suc i + f.index ≡ i + suc f.index = omega arith in (omega (arith, f.stands.0), rw j at f.stands.1, f.stands.2)

          by : (f : FoundAt (suc i) sigs r s) (k : ℕ) → k < suc f.index → StandsAt i (sig ∷ sigs) r k → ⊥
          by f zero l w = passed i sig r h w.1 w.2
          by f (suc k) l w = f.first k (omega arith) (later i k sig sigs r w)

  -- with all available the search is the table's
  same_from : (i : ℕ) (sigs : List (List Urn)) (r : Row) → ((s : ℕ) → s < i + length sigs → counts on s ≡ true)
      → find_available_from on n i sigs r ≡ find_from n i sigs r
  same_from i [] r h = refl
  same_from i (sig ∷ sigs) r h =
      rw (h i (omega arith))
      (ap (cond (same_row (row_from sig 0 n) r) (some i)) (same_from (suc i) sigs r (λ s k. h s (omega arith))))

module _ (t : Table) (on : ℕ → Bool) where
  abbrev env : Env
  env = env_available t on

  to_at : (r : Row) (s : ℕ) → Stands t on r s → StandsAt on t.cats 0 t.signals r s
  to_at r s w = let z : s ≡ 0 + s = omega arith in (w.0, rw z at w.1, w.2)

  pub found_in : (r : Row) (s : ℕ) → find_available t on r ≡ some s → Stands t on r s × ((k : ℕ) → k < s → Stands t on r k → ⊥)
  found_in r s e =
      let f = found_at on t.cats 0 t.signals r s e in
      let i : s ≡ f.index = omega (arith, f.number) in
      ((omega (arith, f.stands.0), rw f.number f.stands.1, rw i f.stands.2), λ k l w. f.first k (omega arith) (to_at r k w))

  pub none_in : (r : Row) → find_available t on r ≡ none → (s : ℕ) → Stands t on r s → ⊥
  none_in r e s w = not_none on t.cats 0 t.signals r e s (to_at r s w)

  pub available-sound : (r : Row) (s : ℕ) → find_available t on r ≡ some s → row_of t s ≡ r
  available-sound r s e = (found_in r s e).0.2

  places-nodes : (r : Row) (s c : ℕ) → find_available t on r ≡ some s → RootOrNode (nodes t) c (get_or r c [])
  places-nodes r s c e = let k = (found_in r s e).0 in rw k.2 at (row-nodes t s k.0 c)

  same-search : ((s : ℕ) → s < length t.signals → counts on s ≡ true) → (r : Row) → find_available t on r ≡ find t r
  same-search h r = same_from on t.cats 0 t.signals r (λ s k. h s (omega arith))

  -- the state is that of direct resolution then
  pub available-all : ((s : ℕ) → s < length t.signals → counts on s ≡ true) → (us : List Urn) → direct_available t on us ≡ direct t us
  available-all h us = ap (λ f. foldl (step (env_by t f)) (start t.cats) us) (λ i r. same-search h r i)

  -- a state of the table is what the steps ask for
  pub available-valid : (st : State) → AvailableState t on st → Valid env t.cats (nodes t) st
  available-valid st g = record { live = g.live; wide = row-length (get_or t.signals st.signal []) 0 t.cats; sized = g.sized; fits = g.fits }

  module _ (wf : WellFormed t) where
    pub available-live : find_available t on (row_of t 0) ≡ some 0
    available-live = go t.signals wf.some-signal
      where
        go : (sigs : List (List Urn)) → 0 < length sigs → find_available_from on t.cats 0 sigs (row_from (get_or sigs 0 []) 0 t.cats) ≡ some 0
        go [] h = absurd (omega arith)
        go (sig ∷ sigs) h = ap (λ b. cond b (some 0) (find_available_from on t.cats 1 sigs (row_from sig 0 t.cats)))
            (row-exact.self (row_from sig 0 t.cats))

    pub available-laws : EnvLaws env t.cats (nodes t)
    available-laws = record { sound = available-sound; noded = places-nodes; inners = λ c p. refl; fresh-node = fresh-node t wf }

    pub available-gives : (us : List Urn) → (counts on (direct_available t on us).signal ≡ true) × ((direct_available t on us).signal < length t.signals)
    available-gives us =
        let k = found_in (row_of t (direct_available t on us).signal) (direct_available t on us).signal
        (live-run env available-sound (start t.cats) us available-live) in
        (k.0.1, k.0.0)

    pub available-start : AvailableState t on (start t.cats)
    available-start =
        record { live = available-live; sized = length-replicate t.cats Open; fits = λ c h. rw (get_or-replicate t.cats c Open Open h) }

    pub available-step : (st : State) (u : Urn) → AvailableState t on st → AvailableState t on (step env st u)
    available-step st u g =
        let v = valid-step env t.cats (nodes t) available-laws st u (available-valid st g) in
        record { live = v.live; sized = v.sized; fits = v.fits }

    pub available-at-node : (st : State) → AvailableState t on st → (u : Urn) → u.cat < t.cats
        → step env st u ≡ node_step env st u.cat (deepest (nodes t) u.cat u.path) (same_parts (deepest (nodes t) u.cat u.path) u.path)
    available-at-node st g = direct-at-node env t.cats (nodes t) available-laws st (available-valid st g)

pub available-law : (t : Table) → WellFormed t → (on : ℕ → Bool) → AvailableLaw t on
available-law t wf on =
    record {
      found = found_in t on;
      not_found = none_in t on;
      all-on = available-all t on;
      gives = available-gives t on wf;
      only-given = says-only-given t wf (find_available t on) (available-sound t on) (available-live t on wf);
      still-says = still-says t wf (find_available t on) (available-sound t on) (available-live t on wf);
      few-changes = few-changes t wf (find_available t on) (available-sound t on) (available-live t on wf);
      starts = available-start t on wf;
      stays = available-step t on wf;
      direct-step = available-at-node t on wf;
    }
