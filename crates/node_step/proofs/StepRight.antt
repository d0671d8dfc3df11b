-- The step at a node's number is the theory's step at the node.
use Prim.Native.Nat.{ℕ, suc, ◌-◌, ◌≤◌, ◌<◌, min}
use mathlib.Core.Path.{◌≡◌, refl, sym, ap, ap₂, ◌∙◌}
use mathlib.Core.Logic.{inl, inr}
use mathlib.Core.Bool.{Bool, true, false, cond, not, ◌&&◌, and-false, false≢true, and-eq-true_iff}
use mathlib.Core.Option.{Option, none, some}
use mathlib.Core.List.{List, [], ◌∷◌, ◌++◌, append-nil}
use borrow.Author.Tests.{eq-eqb, ne_eqb, le-leb, lt-leb}
use lib.ListN.{length, get_or, set, length-append}
use native.Mathlib.Omega.{arith}
use native.Mathlib.Nat.{zero-add}
use Rattle.base_numbers.specs.Numbers.{most_nodes, most_signals, most_tries}
use Rattle.base_lists.proofs.Numbers.{min-le}
use Rattle.theory_resolution.specs.Names.{Name, Parts, same_parts, below, some_part, proper_ancestor, Above, candidates, some_below}
use Rattle.theory_resolution.proofs.Names.{parts-exact, below-to, proper-above, above-trans, some-above, above-some}
use Rattle.theory_resolution.specs.Table.{Table, Row, row_of, WellFormed}
use Rattle.theory_resolution.specs.Nodes.{nodes, is_node, RootOrNode, has_under, is_inner, number}
use Rattle.theory_resolution.proofs.Nodes.{root-free, row-nodes}
use Rattle.theory_resolution.proofs.Deepest.{inner-node}
use Rattle.theory_resolution.proofs.Numbers.{number-node, root-number, number-test}
use Rattle.theory_resolution.specs.Direct.{Env, env_by, first_hit, held_if, open_or, status_fits}
use Rattle.theory_resolution.specs.Direct as direct
use Rattle.theory_resolution.proofs.Direct.{search-hit}
use Rattle.theory_resolution.proofs.Step.{EnvLaws, Valid, hit-node}
use Rattle.theory_resolution.specs.NodeStep.{node_under, node_takes, node_move, node_if_taken, node_step}
use Rattle.node_step.specs.declared.Status.TheVariants.{Open, Held, Shut}
use Rattle.node_step.specs.declared.State.{State}
use Rattle.node_step.specs.Step.{coded_status, progress_from, coded, digit, row_at, inner_at, no_hit, seek, extends, status_in, is_shut, last_taken}
use Rattle.node_step.specs.Step.{takes_past, takes, status_from, moved, hit_numbers, step_numbers}
use Rattle.node_search.specs.Arrays.{InnerIn}
use Rattle.node_step.specs.Rows.{pack, numbers_from, Numbers}
use Rattle.node_step.proofs.ProgressLaws.{progress-at, progress-set}
use Rattle.node_step.proofs.SearchedBy.{SearchedBy, rows-own}
use Rattle.node_step.proofs.SeekRight.{reach-right, wide, digit-is, hit_of, seek-right}

-- what has a proper extension of p has p above it
some-under : (u : Option Parts) (whole : Bool) → node_under u whole ≡ true → some_below u ≡ true
some-under none whole e = absurd (false≢true e)
some-under (some r) whole e = refl

-- a path no node of the table is longer than
pub few-parts-at : {rows ps : List ℕ} {n : ℕ} (t : Table) → Numbers rows ps n t → (c : ℕ) (d : Parts) → RootOrNode (nodes t) c d → length d ≤ 8
few-parts-at t nu c d (inl e) = omega (arith, ap length e)
few-parts-at t nu c d (inr e) =
    let w = number-node (nodes t) c d e in
    omega (arith, nu.few-parts w.0 w.1, ap (λ u. length u.path) w.3)

-- a node or root's number tells whether it has nodes under it
pub inner-right : (inner : List Bool) (t : Table) → InnerIn inner t → length (nodes t) ≤ most_nodes → (c : ℕ) (d : Parts) → RootOrNode (nodes t) c d
    → inner_at inner (number (nodes t) c d) ≡ is_inner (nodes t) c d
inner-right inner t ii few c d (inl e) =
    let z : number (nodes t) c d ≡ 0 = ap (number (nodes t) c) e ∙ root-number t c in
    let n : is_node (nodes t) c d ≡ false = ap (is_node (nodes t) c) e ∙ root-free t c in
    rw (eq-eqb (number (nodes t) c d) 0 z, n)
inner-right inner t ii few c d (inr e) =
    let w = number-node (nodes t) c d e in
    let i : suc w.0 - 1 ≡ w.0 = omega arith in
    ap (inner_at inner) w.2
    ∙ rw (ne_eqb (suc w.0) 0 (λ z. omega arith), le-leb (suc w.0) most_nodes (omega (arith, w.1)), i)
    (ii w.0 w.1 ∙ ap (λ u. has_under (nodes t) u.cat u.path) w.3 ∙ sym (ap (λ b. b && has_under (nodes t) c d) e))

module _ (rows ps : List ℕ) (n : ℕ) (t : Table) (wf : WellFormed t) (nu : Numbers rows ps n t) (c : ℕ) (known : c < t.cats) (d : Parts)
    (ad : RootOrNode (nodes t) c d) (whole : Bool) where
  -- p is a proper ancestor of what is said
  pub extends-right : (p : Parts) → RootOrNode (nodes t) c p → extends ps (number (nodes t) c p) (number (nodes t) c d) whole ≡ node_under (below p d) whole
  unfolding extends
  extends-right p a =
      ap₂ ◌&&◌ (ap (λ b. not (whole && b)) (number-test t c d p ad a))
      (reach-right rows ps n t wf nu c known p a 9 d (omega (arith, few-parts-at t nu c d ad)) ad)
      ∙ by (below p d) refl
    where
      same : p ≡ d → same_parts d p ≡ true
      same e = ap (same_parts d) e ∙ parts-exact.self d

      other : (x : Name) (r : Parts) → p ++ x ∷ r ≡ d → (b : Bool) → same_parts d p ≡ b → b ≡ false
      other x r e false i = refl
      other x r e true i = absurd (omega (arith, length-append p (x ∷ r), ap length e, ap length (parts-exact.to d p i)))

      further : (w : Bool) → not (w && false) && true ≡ true
      further true = refl
      further false = refl

      there : (w : Bool) → not (w && true) && true ≡ not w
      there true = refl
      there false = refl

      by : (u : Option Parts) → below p d ≡ u → not (whole && same_parts d p) && some_below u ≡ node_under u whole
      by none e = and-false (not (whole && same_parts d p))
      by (some []) e = rw (same (sym (append-nil p) ∙ below-to p d [] e)) (there whole)
      by (some (x ∷ r)) e = rw (other x r (below-to p d (x ∷ r) e) (same_parts d p) refl) (further whole)

-- the place of signal s is a proper ancestor of node w
pub place-extends : (rows ps : List ℕ) (n : ℕ) (t : Table) (wf : WellFormed t) (nu : Numbers rows ps n t) (c : ℕ) (known : c < t.cats) (s : ℕ) → s < n
    → (w : Parts) → is_node (nodes t) c w ≡ true → extends ps (digit (row_at rows s) c) (number (nodes t) c w) true ≡ proper_ancestor (get_or (row_of t s) c []) w
place-extends rows ps n t wf nu c known s h w e =
    ap (λ z. extends ps z (number (nodes t) c w) true) (ap (λ z. digit z c) (rows-own nu s h) ∙ digit-is t nu.few-nodes c known s)
    ∙ extends-right rows ps n t wf nu c known w (inr e) true (get_or (row_of t s) c []) (row-nodes t s (rw nu.all-signals h) c)
    ∙ by (below (get_or (row_of t s) c []) w)
  where
    by : (o : Option Parts) → node_under o true ≡ some_part o
    by none = refl
    by (some []) = refl
    by (some (x ∷ r)) = refl

-- the step over some rows, with any finder that searches there
module _ (table ps : List ℕ) (inner : List Bool) (n : ℕ) (t : Table) (wf : WellFormed t) (nu : Numbers table ps n t) (ii : InnerIn inner t)
    (finder : Row → Option ℕ) (laws : EnvLaws (env_by t finder) t.cats (nodes t)) (rows : List ℕ) (by : SearchedBy rows n t finder)
    (st : direct.State) (g : Valid (env_by t finder) t.cats (nodes t) st) (c : ℕ) (known : c < t.cats) (d : Parts)
    (ad : RootOrNode (nodes t) c d) (whole : Bool) where
  abbrev env : Env
  env = env_by t finder

  abbrev pub here : Parts
  here = get_or (row_of t st.signal) c []

  abbrev pub no : Parts → ℕ
  no p = number (nodes t) c p

  abbrev packs : ℕ
  packs = pack (numbers_from (nodes t) 0 (row_of t st.signal))

  -- the category's status
  abbrev now : direct.Status
  now = get_or st.status c direct.Open

  here-anchor : RootOrNode (nodes t) c here
  here-anchor = laws.noded (row_of t st.signal) st.signal c g.live

  -- where the category is held: a node below the place
  held-node : (w : Parts) → status_fits (nodes t) c here (direct.Held w) ≡ true → (is_node (nodes t) c w ≡ true) × Above here w
  held-node w e =
      let k = (and-eq-true_iff (proper_ancestor here w) (is_inner (nodes t) c w)).0 e in
      (inner-node (nodes t) c w k.1, proper-above here w k.0)

  -- the test
  takes-right : (o : direct.Status) → status_fits (nodes t) c here o ≡ true → takes ps (coded_status (nodes t) c o) (no here) (no d) whole
      ≡ node_takes o here d whole
  unfolding is_shut last_taken takes_past
  takes-right direct.Open ok = extends-right table ps n t wf nu c known d ad whole here here-anchor
  takes-right (direct.Held w) ok = extends-right table ps n t wf nu c known d ad whole w (inr (held-node w ok).0)
  takes-right direct.Shut ok = refl

  -- the status after a hit
  status-right : (h : direct.Hit) → RootOrNode (nodes t) c h.at
      → status_from inner (no d) whole (no h.at) ≡ coded_status (nodes t) c (open_or (whole && same_parts h.at d) (held_if (whole && is_inner (nodes t) c d) d))
  unfolding status_from
  status-right h a =
      ap₂ (λ x y. cond whole (cond x Open (cond y (Held (no d)) Shut)) Shut) (number-test t c h.at d a ad) (inner-right inner t ii nu.few-nodes c d ad)
      ∙ all whole (same_parts h.at d) (is_inner (nodes t) c d)
    where
      all : (w x y : Bool) → cond w (cond x Open (cond y (Held (no d)) Shut)) Shut ≡ coded_status (nodes t) c (open_or (w && x) (held_if (w && y) d))
      all false x y = refl
      all true true y = refl
      all true false true = refl
      all true false false = refl

  -- the search by numbers
  seek-at : (r : Parts) → here ++ r ≡ d
      → seek rows ps n packs c (no here) 9 (no d) ≡ hit_of t c (first_hit env (row_of t st.signal) c (candidates here r))
  seek-at r j =
      ap (λ z. seek rows ps n packs c (no here) 9 (no z)) (sym j)
      ∙ seek-right table ps n t wf nu c known finder laws rows by st.signal g.live 9 r (omega (
        arith,
        few-parts-at t nu c d ad,
        length-append here r,
        ap length j,
      )) (rw j ad)

  -- the move
  move-right : (r : Parts) → here ++ r ≡ d
      → moved inner (coded t st) c (no d) whole (seek rows ps n packs c (no here) 9 (no d))
      ≡ coded t (node_move env st c d whole (first_hit env (row_of t st.signal) c (candidates here r)))
  unfolding moved
  move-right r j =
      ap (moved inner (coded t st) c (no d) whole) (seek-at r j)
      ∙ go (first_hit env (row_of t st.signal) c (candidates here r)) refl
    where
      low-c : c < 8
      low-c = let k = nu.few-cats in omega arith

      put-status : (s : direct.Status) → set (progress_from (nodes t) st.status 0 8) c (record { status = coded_status (nodes t) c s })
          ≡ progress_from (nodes t) (set st.status c s) 0 8
      put-status s = rw (zero-add c) at (progress-set (nodes t) st.status 0 8 c s low-c (omega (arith, g.sized)))

      go : (h : Option direct.Hit) → first_hit env (row_of t st.signal) c (candidates here r) ≡ h
          → moved inner (coded t st) c (no d) whole (hit_of t c h) ≡ coded t (node_move env st c d whole h)
      go none e = refl
      go (some h) e =
          let w = search-hit env (row_of t st.signal) c (candidates here r) h e in
          let a = hit-node env t.cats (nodes t) laws (row_of t st.signal) c h.at h.signal (wide t nu.few-nodes c known st.signal) w.0 in
          ap (λ z. record { signal = h.signal; categories = set (progress_from (nodes t) st.status 0 8) c (record { status = z }) }) (status-right h a)
          ∙ ap (λ z. record { signal = h.signal; categories = z })
          (put-status (open_or (whole && same_parts h.at d) (held_if (whole && is_inner (nodes t) c d) d)))

  -- what is taken lies at or under the place
  pub taken-above : (o : direct.Status) → status_fits (nodes t) c here o ≡ true → node_takes o here d whole ≡ true → some_below (below here d) ≡ true
  taken-above direct.Open ok e = some-under (below here d) whole e
  taken-above (direct.Held w) ok e = above-some here d (above-trans (held-node w ok).1 (some-above w d (some-under (below w d) whole e)))
  taken-above direct.Shut ok e = absurd (false≢true e)

  -- the whole step, by the test
  by-test : (b : Bool) → node_takes now here d whole ≡ b
      → cond b (moved inner (coded t st) c (no d) whole (seek rows ps n packs c (no here) 9 (no d))) (coded t st)
      ≡ coded t (node_if_taken env st c d whole b (below here d))
  by-test false e = refl
  by-test true e = go (below here d) refl
    where
      go : (u : Option Parts) → below here d ≡ u
          → moved inner (coded t st) c (no d) whole (seek rows ps n packs c (no here) 9 (no d)) ≡ coded t (node_if_taken env st c d whole true u)
      go none f = absurd (false≢true (rw f at (taken-above now (g.fits c known) e)))
      go (some r) f = move-right r (below-to here d r f)

  status-is : status_in (progress_from (nodes t) st.status 0 8) c ≡ coded_status (nodes t) c now
  status-is =
      ap (λ p. p.status) (progress-at (nodes t) st.status 0 8 c (record { status = Open }) (let k = nu.few-cats in omega arith))
      ∙ ap (λ z. coded_status (nodes t) z (get_or st.status z direct.Open)) (zero-add c)

  -- the hit by numbers, by the theory's test
  hit-test : hit_numbers rows ps n (coded t st) c (number (nodes t) c d) whole
      ≡ cond (node_takes now here d whole) (seek rows ps n packs c (no here) 9 (no d)) no_hit
  unfolding hit_numbers
  hit-test =
      ap₂ (λ r m. cond (takes ps (status_in (progress_from (nodes t) st.status 0 8) c) (digit r c) (no d) whole)
      (seek rows ps m r c (digit r c) 9 (no d)) no_hit)
      (by.own st.signal g.live)
      (sym (min-le n most_signals nu.few-signals))
      ∙ ap₂ (λ s z. cond (takes ps s z (no d) whole) (seek rows ps n packs c z 9 (no d)) no_hit) status-is (digit-is t nu.few-nodes c known st.signal)
      ∙ ap (λ b. cond b (seek rows ps n packs c (no here) 9 (no d)) no_hit) (takes-right now (g.fits c known))

  pub hit-untaken : node_takes now here d whole ≡ false → hit_numbers rows ps n (coded t st) c (number (nodes t) c d) whole ≡ no_hit
  hit-untaken e = hit-test ∙ rw e

  pub hit-taken : node_takes now here d whole ≡ true → (r : Parts) → here ++ r ≡ d
      → hit_numbers rows ps n (coded t st) c (number (nodes t) c d) whole
      ≡ hit_of t c (first_hit env (row_of t st.signal) c (candidates here r))
  hit-taken e r j = hit-test ∙ rw e (seek-at r j)

  -- the step by numbers is the step at the node
  pub step_right : step_numbers rows ps inner n (coded t st) c (number (nodes t) c d) whole ≡ coded t (node_step env st c d whole)
  unfolding step_numbers node_step
  step_right =
      ap (λ b. cond b (coded t st) body) (lt-leb 8 c (let k = nu.few-cats in omega arith))
      ∙ ap₂ (λ r m. cond (takes ps (status_in (progress_from (nodes t) st.status 0 8) c) (digit r c) (no d) whole)
      (moved inner (coded t st) c (no d) whole (seek rows ps m r c (digit r c) 9 (no d))) (coded t st))
      (by.own st.signal g.live)
      (sym (min-le n most_signals nu.few-signals))
      ∙ ap₂ (λ s z. cond (takes ps s z (no d) whole) (moved inner (coded t st) c (no d) whole (seek rows ps n packs c z 9 (no d))) (coded t st))
      status-is
      (digit-is t nu.few-nodes c known st.signal)
      ∙ ap (λ b. cond b (moved inner (coded t st) c (no d) whole (seek rows ps n packs c (no here) 9 (no d))) (coded t st)) (takes-right now (g.fits c known))
      ∙ by-test (node_takes now here d whole) refl
    where
      body : State
      body =
          cond (takes ps (status_in (progress_from (nodes t) st.status 0 8) c) (digit (row_at rows st.signal) c) (no d) whole)
          (moved inner (coded t st) c (no d) whole (seek rows ps (min n most_signals) (row_at rows st.signal) c
          (digit (row_at rows st.signal) c) most_tries (no d)))
          (coded t st)
