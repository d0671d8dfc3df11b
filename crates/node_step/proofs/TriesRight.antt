-- The tries by numbers are the theory's.
use Prim.Native.Nat.{ℕ, zero, suc, ◌<◌}
use mathlib.Core.Path.{◌≡◌, refl, sym, ap, ◌∙◌}
use mathlib.Core.Logic.{◌⊎◌, inl, inr}
use mathlib.Core.Bool.{Bool, true, false, cond, false≢true}
use mathlib.Core.Option.{Option, none, some}
use mathlib.Core.List.{List, [], ◌∷◌, ◌++◌}
use lib.Dec.{eqb}
use borrow.Author.Tests.{eq-eqb, ne_eqb, lt-leb}
use lib.ListN.{length, get_or, length-append}
use native.Mathlib.Omega.{arith}
use Rattle.base_numbers.specs.Numbers.{most_tries}
use Rattle.theory_resolution.specs.Names.{Name, Parts, same_parts, below, candidates}
use Rattle.theory_resolution.proofs.Names.{below-to, snoc-view}
use Rattle.theory_resolution.specs.Table.{Urn, Table, row_of, find, WellFormed}
use Rattle.theory_resolution.specs.Nodes.{nodes, number, deepest, RootOrNode}
use Rattle.theory_resolution.proofs.Deepest.{deepest-node}
use Rattle.theory_resolution.proofs.Numbers.{root-number}
use Rattle.theory_resolution.specs.Direct as direct
use Rattle.theory_resolution.specs.Direct.{env_of, StateOf}
use Rattle.theory_resolution.proofs.Direct.{search-hit}
use Rattle.theory_resolution.proofs.Step.{hit-node}
use Rattle.theory_resolution.proofs.TableStep.{table-laws, state-valid}
use Rattle.theory_resolution.proofs.Theorems.{direct-law}
use Rattle.theory_resolution.specs.NodeStep.{node_takes}
use Rattle.theory_resolution.specs.Tries.{tries_if_taken, node_tries, tries}
use Rattle.theory_resolution.proofs.Tries.{tries-found, tries-at-node}
use Rattle.node_step.specs.Step.{coded, parent_of, hit_at, hit_numbers}
use Rattle.node_step.specs.Tries.{depth, tries_to, tries_numbers}
use Rattle.node_search.specs.Arrays.{InnerIn}
use Rattle.node_step.specs.Rows.{Numbers}
use Rattle.node_step.proofs.SearchedBy.{table-searched}
use Rattle.node_step.proofs.SeekRight.{up-anchor, up-number, not_root, wide, hit_of}
use Rattle.node_step.proofs.StepRight.{few-parts-at, taken-above, hit-untaken, hit-taken}

module _ (rows ps : List ℕ) (n : ℕ) (t : Table) (wf : WellFormed t) (nu : Numbers rows ps n t) (c : ℕ) (known : c < t.cats) where
  abbrev num : Parts → ℕ
  num p = number (nodes t) c p

  -- a node's depth is how many parts it has
  depth-within : (k : ℕ) (d : Parts) → length d < k → RootOrNode (nodes t) c d → depth ps k (num d) ≡ length d
  unfolding depth
  depth-within zero d h a = absurd (omega arith)
  depth-within (suc k) d h a = by (snoc-view d) (λ e l b. depth-within k e l b)
    where
      by : (d ≡ []) ⊎ ((e : Parts) × (x : Name) × (d ≡ e ++ x ∷ []))
          → ((e : Parts) → length e < k → RootOrNode (nodes t) c e → depth ps k (num e) ≡ length e)
          → cond (eqb (num d) 0) 0 (suc (depth ps k (parent_of ps (num d)))) ≡ length d
      by (inl i) ih = rw i (ap (λ b. cond b 0 (suc (depth ps k (parent_of ps (num []))))) (eq-eqb (num []) 0 (root-number t c)))
      by (inr w) ih =
          let a' : RootOrNode (nodes t) c (w.0 ++ w.1 ∷ []) = rw w.2 at a in
          let l : length d ≡ suc (length w.0) = omega (arith, length-append w.0 (w.1 ∷ []), ap length w.2) in
          rw w.2
          (ap (λ b. cond b 0 (suc (depth ps k (parent_of ps (num (w.0 ++ w.1 ∷ []))))))
          (ne_eqb (num (w.0 ++ w.1 ∷ [])) 0 (not_root rows ps n t wf nu c known w.0 w.1 a'))
          ∙ ap suc (ap (depth ps k) (up-number rows ps n t wf nu c known w.0 w.1 a')
          ∙ ih w.0 (omega arith) (up-anchor rows ps n t wf nu c known w.0 w.1 a'))
          ∙ omega (arith, length-append w.0 (w.1 ∷ [])))

  depth-right : (d : Parts) → RootOrNode (nodes t) c d → depth ps most_tries (num d) ≡ length d
  depth-right d a = depth-within 9 d (omega (arith, few-parts-at t nu c d a)) a

module _ (rows ps : List ℕ) (inner : List Bool) (n : ℕ) (t : Table) (wf : WellFormed t) (nu : Numbers rows ps n t) (ii : InnerIn inner t)
    (st : direct.State) (g : StateOf t st) (c : ℕ) (known : c < t.cats) (d : Parts) (ad : RootOrNode (nodes t) c d) (whole : Bool) where
  abbrev here : Parts
  here = get_or (row_of t st.signal) c []

  -- a URN that is passed over
  tries-untaken : node_takes (get_or st.status c direct.Open) here d whole ≡ false → tries_numbers rows ps n (coded t st) c (number (nodes t) c d) whole ≡ 0
  unfolding tries_numbers
  tries-untaken e =
      simp (lt-leb 8 c (let q = nu.few-cats in omega arith))
      (ap (tries_to ps (number (nodes t) c d)) (hit-untaken rows ps inner n t wf nu ii (find t) (table-laws t wf) rows (table-searched nu)
      st (state-valid t st g) c known d ad whole e))

  -- a taken URN
  tries-taken : node_takes (get_or st.status c direct.Open) here d whole ≡ true → (o : Option Parts) → below here d ≡ o
      → tries_numbers rows ps n (coded t st) c (number (nodes t) c d) whole ≡ tries_if_taken (env_of t) (row_of t st.signal) c here true o
  unfolding tries_numbers
  tries-taken e none f = absurd
      (false≢true (rw f at (taken-above rows ps inner n t wf nu ii (find t) (table-laws t wf) rows (table-searched nu) st
      (state-valid t st g) c known d ad whole (get_or st.status c direct.Open) (g.fits c known) e)))
  tries-taken e (some r) f =
      let j : here ++ r ≡ d = below-to here d r f in
      let w = (direct-law t wf).finds st g c r in
      let k = search-hit (env_of t) (row_of t st.signal) c (candidates here r) w.0 w.1 in
      let a = hit-node (env_of t) t.cats (nodes t) (table-laws t wf) (row_of t st.signal) c w.0.at w.0.signal
      (wide t nu.few-nodes c known st.signal) k.0 in
      let v : hit_numbers rows ps n (coded t st) c (number (nodes t) c d) whole ≡ hit_at (number (nodes t) c w.0.at) w.0.signal =
      hit-taken rows ps inner n t wf nu ii (find t) (table-laws t wf) rows (table-searched nu) st (state-valid t st g) c known d ad whole e r j
      ∙ ap (hit_of t c) w.1 in
      simp (lt-leb 8 c (let q = nu.few-cats in omega arith))
      (ap (tries_to ps (number (nodes t) c d)) v
      ∙ omega (
        arith,
        depth-right rows ps n t wf nu c known d ad,
        depth-right rows ps n t wf nu c known w.0.at a,
        tries-found (env_of t) (row_of t st.signal) c here r w.0 w.1,
        length-append here r,
        ap length j,
      ))

  pub tries-right : tries_numbers rows ps n (coded t st) c (number (nodes t) c d) whole ≡ node_tries (env_of t) st c d whole
  tries-right = by (node_takes (get_or st.status c direct.Open) here d whole) refl
    where
      by : (b : Bool) → node_takes (get_or st.status c direct.Open) here d whole ≡ b
          → tries_numbers rows ps n (coded t st) c (number (nodes t) c d) whole ≡ tries_if_taken (env_of t) (row_of t st.signal) c here b (below here d)
      by true e = tries-taken e (below here d) refl
      by false e = tries-untaken e

-- the tries of a used URN, at its deepest node
pub tries-direct : (rows ps : List ℕ) (inner : List Bool) (n : ℕ) (t : Table) (wf : WellFormed t) → Numbers rows ps n t → InnerIn inner t
    → (st : direct.State) → StateOf t st
    → (u : Urn) → u.cat < t.cats
    → tries_numbers rows ps n (coded t st) u.cat (number (nodes t) u.cat (deepest (nodes t) u.cat u.path))
    (same_parts (deepest (nodes t) u.cat u.path) u.path)
    ≡ tries (env_of t) (nodes t) st u
tries-direct rows ps inner n t wf nu ii st g u h =
    tries-right rows ps inner n t wf nu ii st g u.cat h (deepest (nodes t) u.cat u.path)
    (deepest-node (nodes t) u.cat u.path) (same_parts (deepest (nodes t) u.cat u.path) u.path)
    ∙ sym (tries-at-node t wf st g u h)
