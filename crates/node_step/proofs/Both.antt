-- The step by numbers and the two steps of the theory: direct resolution's, at a used URN, and the machine's, at a symbol.
use Prim.Native.Nat.{ℕ, zero, suc, ◌≤◌, ◌<◌}
use mathlib.Core.Path.{◌≡◌, refl, sym, ap, ap₂, subst, ◌∙◌}
use mathlib.Core.Logic.{inr}
use mathlib.Core.Bool.{Bool, true, not, and-eq-true_iff}
use mathlib.Core.Option.{Option}
use mathlib.Core.List.{List, [], ◌∷◌}
use lib.ListN.{length, get_or, replicate, get_or-eq_default}
use native.Mathlib.Omega.{arith}
use native.Mathlib.Nat.{zero-add}
use native.Mathlib.Decide.{dec_lt}
use lib.Seq.{ext_get_or}
use Rattle.base_numbers.specs.Numbers.{most_nodes}
use Rattle.base_lists.proofs.Bools.{same_test}
use Rattle.theory_resolution.specs.Names.{Parts, same_parts, proper_ancestor}
use Rattle.theory_resolution.specs.Table.{Urn, Table, Row, row_of, find, WellFormed}
use Rattle.theory_resolution.specs.Nodes.{nodes, is_node, RootOrNode, is_inner, deepest}
use Rattle.theory_resolution.proofs.TableStep.{table-laws}
use Rattle.theory_resolution.specs.Nodes.{number}
use Rattle.theory_resolution.proofs.Numbers.{number-node, number_same}
use Rattle.theory_resolution.specs.Direct.{env_by, env_of, start, step, status_fits, StateOf, same_state}
use Rattle.theory_resolution.proofs.Direct.{state-exact}
use Rattle.theory_resolution.specs.Direct as direct
use Rattle.theory_resolution.specs.Symbols.{Symbol, steps_as}
use Rattle.theory_resolution.proofs.Step.{EnvLaws, Valid}
use Rattle.theory_resolution.proofs.NodeStep.{direct-at-node, symbol-at-node}
use Rattle.node_step.specs.Step.{coded_status, progress_from, coded, status_in, step_numbers}
use Rattle.node_search.specs.Arrays.{InnerIn}
use Rattle.node_step.specs.Rows.{Numbers}
use Rattle.node_step.proofs.ProgressLaws.{progress-length, progress-at}
use Rattle.node_step.specs.StatusByte.{packed, unpacked, packed_of, of_packed, same_packed}
use Rattle.node_step.proofs.ByteLaws.{Numbered, pack-again}
use Rattle.node_step.proofs.PackedStep.{packed-exact}
use Rattle.node_step.proofs.SearchedBy.{SearchedBy, table-searched}
use Rattle.node_step.proofs.StepRight.{step_right}
use Rattle.theory_resolution.proofs.Deepest.{deepest-node, inner-node}
use Rattle.node_step.specs.declared.Status.TheVariants.{Open}
use Rattle.node_step.specs.declared.State.{State}

-- at a used URN, with any finder, over the rows in which it searches
pub step_by : (table ps : List ℕ) (inner : List Bool) (n : ℕ) (t : Table) (wf : WellFormed t) → Numbers table ps n t → InnerIn inner t
    → (finder : Row → Option ℕ) → EnvLaws (env_by t finder) t.cats (nodes t) → (rows : List ℕ) → SearchedBy rows n t finder
    → (st : direct.State) → Valid (env_by t finder) t.cats (nodes t) st → (u : Urn) → u.cat < t.cats
    → step_numbers rows ps inner n (coded t st) u.cat (number (nodes t) u.cat (deepest (nodes t) u.cat u.path))
    (same_parts (deepest (nodes t) u.cat u.path) u.path)
    ≡ coded t (step (env_by t finder) st u)
step_by table ps inner n t wf nu ii finder laws rows by st g u h =
    step_right table ps inner n t wf nu ii finder laws rows by st g u.cat h (deepest (nodes t) u.cat u.path)
    (deepest-node (nodes t) u.cat u.path) (same_parts (deepest (nodes t) u.cat u.path) u.path)
    ∙ ap (coded t) (sym (direct-at-node (env_by t finder) t.cats (nodes t) laws st g u h))

module _ (rows ps : List ℕ) (inner : List Bool) (n : ℕ) (t : Table) (wf : WellFormed t) (nu : Numbers rows ps n t) (ii : InnerIn inner t)
    (st : direct.State) (g : Valid (env_of t) t.cats (nodes t) st) where
  pub step-direct : (u : Urn) → u.cat < t.cats
      → step_numbers rows ps inner n (coded t st) u.cat (number (nodes t) u.cat (deepest (nodes t) u.cat u.path))
      (same_parts (deepest (nodes t) u.cat u.path) u.path)
      ≡ coded t (step (env_of t) st u)
  step-direct = step_by rows ps inner n t wf nu ii (find t) (table-laws t wf) rows (table-searched nu) st g

  pub step-symbol : (s : Symbol) → s.cat < t.cats → RootOrNode (nodes t) s.cat s.path
      → step_numbers rows ps inner n (coded t st) s.cat (number (nodes t) s.cat s.path) (not s.other) ≡ coded t (step (env_of t) st (steps_as s))
  step-symbol s h a =
      step_right rows ps inner n t wf nu ii (find t) (table-laws t wf) rows (table-searched nu) st g s.cat h s.path a (not s.other)
      ∙ ap (coded t) (sym (symbol-at-node (env_of t) t.cats (nodes t) (table-laws t wf) st g s h))

-- the start is signal 0 with every category open
open-progress : (ns : List Urn) (k c n : ℕ) → progress_from ns (replicate k direct.Open) c n ≡ replicate n (record { status = Open })
unfolding progress_from
open-progress ns k c zero = refl
open-progress ns k c (suc n) = ap₂ (λ s l. record { status = coded_status ns c s } ∷ l) (every-open k c) (open-progress ns k (suc c) n)
  where
    every-open : (k c : ℕ) → get_or (replicate k direct.Open) c direct.Open ≡ direct.Open
    every-open zero c = refl
    every-open (suc k) zero = refl
    every-open (suc k) (suc c) = every-open k c

pub coded-start : (t : Table) (k : ℕ) → coded t (start k) ≡ record { signal = 0; categories = replicate 8 (record { status = Open }) }
coded-start t k = ap (λ z. record { signal = 0; categories = z }) (open-progress (nodes t) k 0 8)

-- statuses that fit are told by their codes
pub status-same : (t : Table) (c : ℕ) (p q : Parts) (a b : direct.Status) → status_fits (nodes t) c p a ≡ true → status_fits (nodes t) c q b ≡ true
    → coded_status (nodes t) c a ≡ coded_status (nodes t) c b → a ≡ b
status-same t c p q direct.Open direct.Open f g e = refl
status-same t c p q direct.Open (direct.Held w) f g e = let z : ◌≡◌ {A = ℕ} 0 1 = cc in absurd (omega arith)
status-same t c p q direct.Open direct.Shut f g e = let z : ◌≡◌ {A = ℕ} 0 1 = cc in absurd (omega arith)
status-same t c p q (direct.Held v) direct.Open f g e = let z : ◌≡◌ {A = ℕ} 0 1 = cc in absurd (omega arith)
status-same t c p q (direct.Held v) (direct.Held w) f g e =
    let i : number (nodes t) c v ≡ number (nodes t) c w = cc in
    ap direct.Held (number_same t c v w (inr (node p v f)) (inr (node q w g)) i)
  where
    node : (p w : Parts) → status_fits (nodes t) c p (direct.Held w) ≡ true → is_node (nodes t) c w ≡ true
    node p w h = inner-node (nodes t) c w ((and-eq-true_iff (proper_ancestor p w) (is_inner (nodes t) c w)).0 h).1
status-same t c p q (direct.Held v) direct.Shut f g e = let z : ◌≡◌ {A = ℕ} 0 1 = cc in absurd (omega arith)
status-same t c p q direct.Shut direct.Open f g e = let z : ◌≡◌ {A = ℕ} 0 1 = cc in absurd (omega arith)
status-same t c p q direct.Shut (direct.Held w) f g e = let z : ◌≡◌ {A = ℕ} 0 1 = cc in absurd (omega arith)
status-same t c p q direct.Shut direct.Shut f g e = refl

-- the code's status of category c
pub coded-at : (t : Table) (st : direct.State) (c : ℕ) → c < 8 → status_in (coded t st).categories c ≡ coded_status (nodes t) c (get_or st.status c direct.Open)
coded-at t st c h =
    ap (λ x. x.status) (progress-at (nodes t) st.status 0 8 c (record { status = Open }) h)
    ∙ ap (λ z. coded_status (nodes t) z (get_or st.status z direct.Open)) (zero-add c)

-- two states of a table are one exactly if their codes are
pub coded-same : (t : Table) → t.cats ≤ 8 → (a b : direct.State) → StateOf t a → StateOf t b → coded t a ≡ coded t b → a ≡ b
coded-same t few a b ga gb e =
    let p : a.signal ≡ b.signal = ap (λ z. z.signal) e in
    let q : a.status ≡ b.status = ext_get_or direct.Open a.status b.status (ga.sized ∙ sym gb.sized) (λ c h. each c (rw ga.sized at h)) in
    λ i. record { signal = p i; status = q i }
  where
    each : (c : ℕ) → c < t.cats → get_or a.status c direct.Open ≡ get_or b.status c direct.Open
    each c h =
        status-same t c _ _ (get_or a.status c direct.Open) (get_or b.status c direct.Open) (ga.fits c h) (gb.fits c h)
        (sym (coded-at t a c (omega arith)) ∙ ap (λ (z : State). status_in z.categories c) e ∙ coded-at t b c (omega arith))

-- a state's categories are told by their bytes in one number
module _ (t : Table) (few : t.cats ≤ 8) (few-nodes : length (nodes t) ≤ most_nodes) where
  numbered : (c : ℕ) (p : Parts) (s : direct.Status) → status_fits (nodes t) c p s ≡ true → Numbered (coded_status (nodes t) c s)
  numbered c p direct.Open e = tt
  numbered c p (direct.Held w) e =
      let k = inner-node (nodes t) c w ((and-eq-true_iff (proper_ancestor p w) (is_inner (nodes t) c w)).0 e).1 in
      let v = number-node (nodes t) c w k in
      (omega (arith, v.2), omega (arith, v.1, v.2))
  numbered c p direct.Shut e = tt

  pub coded-again : (st : direct.State) → StateOf t st → unpacked (packed (coded t st).categories 0 8) 8 ≡ (coded t st).categories
  coded-again st g = pack-again (coded t st).categories (progress-length (nodes t) st.status 0 8) (λ k h. rw (coded-at t st k h) (by k (dec_lt k t.cats)))
    where
      by : (k : ℕ) → Dec (k < t.cats) → Numbered (coded_status (nodes t) k (get_or st.status k direct.Open))
      by k (yes i) = numbered k (get_or (row_of t st.signal) k []) (get_or st.status k direct.Open) (g.fits k i)
      by k (no i) =
          let z : length st.status ≤ k = omega (arith, g.sized) in
          rw (get_or-eq_default st.status direct.Open z) tt

  -- a packed state tells the state
  pub of-packed : (st : direct.State) → StateOf t st → of_packed (packed_of (coded t st)) ≡ coded t st
  of-packed st g = ap (λ l. record { signal = st.signal; categories = l }) (coded-again st g)

  pub packed-test : (a b : direct.State) → StateOf t a → StateOf t b → same_packed (packed_of (coded t a)) (packed_of (coded t b)) ≡ same_state a b
  packed-test a b ga gb =
      same_test (same_packed (packed_of (coded t a)) (packed_of (coded t b))) (same_state a b)
      (λ h. subst (λ (z : direct.State). same_state a z ≡ true)
      (coded-same t few a b ga gb (sym (of-packed a ga) ∙ ap of_packed (packed-exact.to (packed_of (coded t a)) (packed_of (coded t b)) h)
      ∙ of-packed b gb)) (state-exact.self a))
      (λ h. ap (λ z. same_packed (packed_of (coded t a)) (packed_of (coded t z))) (sym (state-exact.to a b h)) ∙ packed-exact.self (packed_of (coded t a)))
