-- Laws of tries: the count is from the deepest node to the candidate found, and nothing is found deeper.
use Prim.Native.Nat.{ℕ, zero, suc, ◌+◌, ◌*◌, ◌≤◌, ◌<◌}
use mathlib.Core.Path.{◌≡◌, refl, sym, ap, subst, ◌∙◌}
use mathlib.Core.Logic.{inl, inr}
use mathlib.Core.Bool.{Bool, true, false, false≢true, and-eq-true_iff}
use mathlib.Core.Option.{Option, none, some}
use mathlib.Core.List.{List, [], ◌∷◌, ◌++◌, append_assoc, Memᴰ}
use lib.ListN.{length, get_or, set, length-append}
use lib.Seq.{set-get_or}
use native.Mathlib.Omega.{arith}
use Rattle.base_lists.proofs.Lists.{member-to}
use Rattle.theory_resolution.specs.Names.{Parts, same_parts, below, proper_ancestor, longer, candidates, Above}
use Rattle.theory_resolution.specs.Table.{Urn, urn, Table, Row, row_of, find, WellFormed}
use Rattle.theory_resolution.specs.Direct.{Status, Open, Held, Shut, State, Env, env_of, Hit, first_hit, takes_urn, status_fits, step, StateOf}
use Rattle.theory_resolution.specs.Nodes.{same_urn, nodes, RootOrNode, is_inner, deepest}
use Rattle.theory_resolution.specs.Tries.{one_more, tries_of, tries_if_taken, tries, node_tries, tries_over, place_at, taken_at, deepest_of, Searched, TriesLaw}
use Rattle.theory_resolution.proofs.Names.{below-to, below_self, above-trans, proper-above}
use Rattle.theory_resolution.proofs.Table.{row-length}
use Rattle.theory_resolution.proofs.Direct.{search-last}
use Rattle.theory_resolution.proofs.Nodes.{urn-exact, nodes-all, noded}
use Rattle.theory_resolution.proofs.Deepest.{deep-above, above-deep, deepest-node, inner-node}
use Rattle.theory_resolution.proofs.Step.{hit-node, beyond, seek}
use Rattle.theory_resolution.proofs.TableStep.{table-laws, state-valid}
use Rattle.theory_resolution.proofs.NodeStep.{takes-at-node}

-- the lengths of the paths are n - 1, n - 2, and so on
abbrev Down : ℕ → List Parts → Type 0
Down n [] = Unit {0}
Down zero (p ∷ ps) = ⊥
Down (suc n) (p ∷ ps) = (length p ≡ n) × Down n ps

down-append : (n k : ℕ) (ps qs : List Parts) → n ≡ length ps + k → Down n ps → Down k qs → Down n (ps ++ qs)
down-append n k [] qs e d h = let i : k ≡ n = omega arith in subst (λ m. Down m qs) i h
down-append zero k (p ∷ ps) qs e d h = absurd d
down-append (suc n) k (p ∷ ps) qs e d h = (d.0, down-append n k ps qs (omega arith) d.1 h)

longer-length : (q r : Parts) → length (longer q r) ≡ length r
longer-length q [] = refl
longer-length q (x ∷ r) = omega (arith, length-append (longer (q ++ x ∷ []) r) ((q ++ x ∷ []) ∷ []), longer-length (q ++ x ∷ []) r)

down-longer : (q r : Parts) (n : ℕ) → n ≡ suc (length q + length r) → Down n (longer q r)
down-longer q [] n e = tt
down-longer q (x ∷ r) n e =
    down-append n (suc (suc (length q))) (longer (q ++ x ∷ []) r) ((q ++ x ∷ []) ∷ [])
    (omega (arith, longer-length (q ++ x ∷ []) r))
    (down-longer (q ++ x ∷ []) r n (omega (arith, length-append q (x ∷ []))))
    (omega (arith, length-append q (x ∷ [])), tt)

down-candidates : (q r : Parts) → Down (suc (length q + length r)) (candidates q r)
down-candidates q r =
    down-append (suc (length q + length r)) (suc (length q)) (longer q r) (q ∷ []) (omega (arith, longer-length q r))
    (down-longer q r (suc (length q + length r)) refl) (refl, tt)

module _ (env : Env) (row : Row) (c : ℕ) where
  -- the tries down to a hit
  tries-hit : (n : ℕ) (ps : List Parts) → Down n ps → (h : Hit) → first_hit env row c ps ≡ some h → tries_of env row c ps + length h.at ≡ n
  tries-hit n [] d h e = let z : ◌≡◌ {A = ℕ} 0 1 = cc in absurd (omega arith)
  tries-hit zero (p ∷ ps) d h e = absurd d
  tries-hit (suc n) (p ∷ ps) d h e = go (env.finder (set row c p)) refl (tries-hit n ps d.1 h)
    where
      go : (o : Option ℕ) → env.finder (set row c p) ≡ o → (first_hit env row c ps ≡ some h → tries_of env row c ps + length h.at ≡ n)
          → tries_of env row c (p ∷ ps) + length h.at ≡ suc n
      go none f ih = let k = ih (rw f at e) in rw f (omega (arith, k))
      go (some s) f ih =
          let e' : some (record { at = p; signal = s }) ≡ some h = rw f at e in
          let e₁ : record { at = p; signal = s } ≡ h = cc in
          rw f (omega (arith, d.0, ap (λ x. length x.at) e₁))

  pub tries-found : (q r : Parts) (h : Hit) → first_hit env row c (candidates q r) ≡ some h
      → tries_of env row c (candidates q r) + length h.at ≡ suc (length q + length r)
  tries-found q r h e = tries-hit (suc (length q + length r)) (candidates q r) (down-candidates q r) h e

  tries-few : (ps : List Parts) → tries_of env row c ps ≤ length ps
  tries-few [] = omega arith
  tries-few (p ∷ ps) = go (env.finder (set row c p)) (tries-few ps)
    where
      go : (o : Option ℕ) → tries_of env row c ps ≤ length ps → one_more o (tries_of env row c ps) ≤ length (p ∷ ps)
      go none h = omega arith
      go (some s) h = omega arith

-- no URN costs more than its deepest node has parts, and one
pub few-tries : (env : Env) (ns : List Urn) (st : State) (u : Urn) → tries env ns st u ≤ suc (length (deepest ns u.cat u.path))
few-tries env ns st u = go (takes_urn (get_or st.status u.cat Open) q u.path) (below q d) refl
  where
    q : Parts
    q = get_or (env.rows st.signal) u.cat []

    d : Parts
    d = deepest ns u.cat u.path

    go : (b : Bool) (o : Option Parts) → below q d ≡ o → tries_if_taken env (env.rows st.signal) u.cat q b o ≤ suc (length d)
    go false o e = omega arith
    go true none e = omega arith
    go true (some r) e =
        omega (
          arith,
          tries-few env (env.rows st.signal) u.cat (candidates q r),
          length-append (longer q r) (q ∷ []),
          longer-length q r,
          ap length (below-to q d r e),
          length-append q r,
        )

module _ (t : Table) (wf : WellFormed t) (st : State) (g : StateOf t st) (u : Urn) (known : u.cat < t.cats) where
  abbrev q : Parts
  q = place_at t st u

  abbrev d : Parts
  d = deepest_of t u

  abbrev row : Row
  row = row_of t st.signal

  in_row : u.cat < length row
  in_row = omega (arith, row-length (get_or t.signals st.signal []) 0 t.cats, known)

  -- nothing is found deeper than the deepest node
  pub never-found : (p : Parts) → Above p u.path → length d < length p → find t (set row u.cat p) ≡ none
  never-found p a h = go (find t (set row u.cat p)) refl
    where
      no_way : RootOrNode (nodes t) u.cat p → ⊥
      no_way n =
          let b = above-deep (nodes t) u.cat p u.path n a in
          omega (arith, length-append p b.rest, ap length b.joined)

      go : (o : Option ℕ) → find t (set row u.cat p) ≡ o → o ≡ none
      go none e = refl
      go (some s) e = absurd (no_way (hit-node (env_of t) t.cats (nodes t) (table-laws t wf) row u.cat p s in_row e))

  -- the place of a category that takes the URN is above the deepest node
  place-above : taken_at t st u ≡ true → Above q d
  place-above = go (get_or st.status u.cat Open) (g.fits u.cat known)
    where
      lies : (p : Parts) → RootOrNode (nodes t) u.cat p → proper_ancestor p u.path ≡ true → Above p d
      lies p n e = above-deep (nodes t) u.cat p u.path n (proper-above p u.path e)

      go : (o : Status) → status_fits (nodes t) u.cat q o ≡ true → takes_urn o q u.path ≡ true → Above q d
      go Open f e = lies q (noded t row st.signal u.cat g.live) e
      go (Held w) f e =
          let k = (and-eq-true_iff (proper_ancestor q w) (is_inner (nodes t) u.cat w)).0 f in
          above-trans (proper-above q w k.0) (lies w (inr (inner-node (nodes t) u.cat w k.1)) e)
      go Shut f e = absurd (false≢true e)

  pub tries-at-node : tries (env_of t) (nodes t) st u ≡ node_tries (env_of t) st u.cat d (same_parts d u.path)
  tries-at-node =
      ap (λ b. tries_if_taken (env_of t) row u.cat q b (below q d))
      (takes-at-node (env_of t) t.cats (nodes t) (table-laws t wf) st (state-valid t st g) u known)

  pub searched : taken_at t st u ≡ true → Searched t st u
  searched e =
      record {
        rest = a.rest ++ f;
        left = ap (below q) (sym joined) ∙ below_self q (a.rest ++ f);
        short = a.rest;
        down = down;
        same = same;
        hit = hh.0;
        found = same ∙ hh.1;
        counted = rw (e, down) (tries-hit (env_of t) row u.cat (suc (length d)) (candidates q a.rest)
            (rw (← size) (down-candidates q a.rest)) hh.0 hh.1);
      }
    where
      a : Above q d
      a = place-above e

      b : Above d u.path
      b = deep-above (nodes t) u.cat u.path

      f : Parts
      f = b.rest

      joined : q ++ (a.rest ++ f) ≡ u.path
      joined = sym (append_assoc q a.rest f) ∙ ap (λ z. z ++ f) a.joined ∙ b.joined

      down : below q d ≡ some a.rest
      down = ap (below q) (sym a.joined) ∙ below_self q a.rest

      size : length q + length a.rest ≡ length d
      size = sym (length-append q a.rest) ∙ ap length a.joined

      same : first_hit (env_of t) row u.cat (candidates q (a.rest ++ f)) ≡ first_hit (env_of t) row u.cat (candidates q a.rest)
      same =
          seek (env_of t) row u.cat q a.rest f
          (rw a.joined (beyond (env_of t) t.cats (nodes t) (table-laws t wf) row u.cat u.path f in_row b.joined))

      hh : (h : Hit) × (first_hit (env_of t) row u.cat (candidates q a.rest) ≡ some h)
      hh = search-last (env_of t) row u.cat (longer q a.rest) q st.signal (rw (set-get_or row u.cat []) g.live)

-- a node has no more parts than the signals' URNs
pub nodes-low : (t : Table) (k : ℕ) → ((sig : List Urn) → Memᴰ sig t.signals → (u : Urn) → Memᴰ u sig → length u.path ≤ k)
    → (n : Urn) → Memᴰ n (nodes t) → length n.path ≤ k
nodes-low t k low n m =
    let w = nodes-all t n m in
    omega (arith, low w.signal w.listed w.by w.named, ap length w.above.joined, length-append n.path w.above.rest)

-- where no node has over k parts
module _ (t : Table) (k : ℕ) (low : (n : Urn) → Memᴰ n (nodes t) → length n.path ≤ k) where
  pub tries-bounded : (st : State) (u : Urn) → tries (env_of t) (nodes t) st u ≤ suc k
  tries-bounded st u = go (deepest-node (nodes t) u.cat u.path)
    where
      go : RootOrNode (nodes t) u.cat (deepest_of t u) → tries (env_of t) (nodes t) st u ≤ suc k
      go (inl e) = omega (arith, few-tries (env_of t) (nodes t) st u, ap length e)
      go (inr e) =
          let m = low (urn u.cat (deepest_of t u)) (member-to same_urn urn-exact (urn u.cat (deepest_of t u)) (nodes t) e) in
          omega (arith, few-tries (env_of t) (nodes t) st u, m)

  pub tries-sum : (st : State) (us : List Urn) → tries_over t st us ≤ length us * suc k
  tries-sum st [] = omega arith
  tries-sum st (u ∷ us) = omega (arith, tries-bounded st u, tries-sum (step (env_of t) st u) us)

pub tries-law : (t : Table) → WellFormed t → TriesLaw t
tries-law t wf =
    record {
      untaken = λ st u e. rw e;
      taken = searched t wf;
      beyond = never-found t wf;
      at-node = tries-at-node t wf;
      few = few-tries (env_of t) (nodes t);
      low = nodes-low t;
      bounded = tries-bounded t;
      sum = tries-sum t;
    }
