-- Leaves by the parents: leaves are nobody's parent.
use Prim.Native.Nat.{ℕ, zero, suc, ◌+◌, ◌<◌}
use mathlib.Core.Path.{◌≡◌, refl, sym, ap, ap₂, ◌∙◌}
use mathlib.Core.Logic.{◌⊎◌, inl, inr, ◌≢◌}
use mathlib.Core.Bool.{Bool, true, false, not, ◌&&◌, true≢false, and-false}
use mathlib.Core.List.{List, [], ◌∷◌, ◌++◌, append_assoc}
use lib.Dec.{eqb}
use borrow.Author.Tests.{eqb-true, eq-eqb}
use lib.ListN.{length, get_or, length-append}
use native.Mathlib.Omega.{arith}
use native.Mathlib.Decide.{ℕ_discrete}
use native.Mathlib.Numerals.{add-one}
use Rattle.base_lists.proofs.Lists.{mem-at, member_of}
use Rattle.base_lists.proofs.Bools.{same_test}
use Rattle.theory_resolution.specs.Names.{Name, Parts}
use Rattle.theory_resolution.specs.Table.{Urn, urn, Table}
use Rattle.theory_resolution.specs.Nodes.{same_urn, nodes, is_node, number, node_at, RootOrNode, has_under, is_root, leaf}
use Rattle.theory_resolution.proofs.Names.{snoc-view}
use Rattle.theory_resolution.proofs.Nodes.{urn-exact, root-free}
use Rattle.theory_resolution.proofs.Numbers.{number-node, number-positive, number-at, ancestor-node}
use Rattle.theory_resolution.proofs.Deepest.{under_to, leaf-ends}
use Rattle.node_search.specs.Arrays.{NodesIn, childless}
use Rattle.node_step.specs.Rows.{Numbers}

-- a node with a child
pub child-found : (ps : List ℕ) (d n i : ℕ) → i < n → get_or ps i 0 ≡ d → false ≡ childless ps d n
unfolding childless
child-found ps d zero i h e = absurd (omega arith)
child-found ps d (suc n) i h e = by (ℕ_discrete i n) (λ j. child-found ps d n i j e)
  where
    by : Dec (i ≡ n) → (i < n → false ≡ childless ps d n) → false ≡ (childless ps d n && not (eqb (get_or ps n 0) d))
    by (yes j) ih = sym (rw (← j, eq-eqb (get_or ps i 0) d e) (and-false (childless ps d i)))
    by (no j) ih = let z : childless ps d n ≡ false = sym (ih (omega arith)) in sym (rw z)

-- a node that is no leaf by its children has one
childless-to : (ps : List ℕ) (d n : ℕ) → childless ps d n ≡ false → (i : ℕ) × (i < n) × (get_or ps i 0 ≡ d)
unfolding childless
childless-to ps d zero e = absurd (true≢false e)
childless-to ps d (suc n) e = go (eqb (get_or ps n 0) d) refl (childless ps d n) refl (childless-to ps d n)
  where
    go : (b : Bool) → eqb (get_or ps n 0) d ≡ b → (a : Bool) → childless ps d n ≡ a → (childless ps d n ≡ false → (i : ℕ) × (i < n) × (get_or ps i 0 ≡ d))
        → (i : ℕ) × (i < suc n) × (get_or ps i 0 ≡ d)
    go true f a g ih = (n, omega arith, eqb-true (get_or ps n 0) d f)
    go false f false g ih = let w = ih g in (w.0, omega (arith, w.1), w.2)
    go false f true g ih = absurd (true≢false (rw (f, g) at e))

module _ (t ca pos len : List ℕ) (n : ℕ) (T : Table) (ni : NodesIn t ca pos len n T) (rows ps : List ℕ) (signals : ℕ) (nu : Numbers rows ps signals T) where
  abbrev ns : List Urn
  ns = nodes T

  there : (k : ℕ) → k < n → k < length (nodes T)
  there k h = omega (arith, ni.all-nodes)

  is-node : (k : ℕ) → k < n → is_node ns (node_at ns k).cat (node_at ns k).path ≡ true
  is-node k h = member_of same_urn urn-exact (node_at ns k) ns (mem-at ns k (urn 0 []) (there k h))

  some-path : (k : ℕ) → k < n → (node_at ns k).path ≢ []
  some-path k h e = true≢false (sym (is-node k h) ∙ ap (is_node ns (node_at ns k).cat) e ∙ root-free T (node_at ns k).cat)

  -- a leaf is a node that is nobody's parent
  module _ (k : ℕ) (h : k < n) where
    abbrev c : ℕ
    c = (node_at ns k).cat

    abbrev p : Parts
    p = (node_at ns k).path

    child-ends : leaf ns c p ≡ true → (i : ℕ) → i < n → get_or ps i 0 ≡ k + 1 → ⊥
    child-ends f i l q = by (snoc-view (node_at ns i).path)
      where
        by : ((node_at ns i).path ≡ []) ⊎ ((e : Parts) × (x : Name) × ((node_at ns i).path ≡ e ++ x ∷ [])) → ⊥
        by (inl z) = some-path i l z
        by (inr w) =
            let m : number ns (node_at ns i).cat w.0 ≡ suc k = sym (nu.parent-at i (there i l) w.0 w.1 w.2) ∙ q ∙ add-one k in
            let g = number-positive ns (node_at ns i).cat w.0 k m in
            let v = number-node ns (node_at ns i).cat w.0 g in
            let j : v.0 ≡ k = omega (arith, v.2, m) in
            let a : node_at ns k ≡ urn (node_at ns i).cat w.0 = ap (node_at ns) (sym j) ∙ v.3 in
            leaf-ends ns c p w.1 [] f
            (ap₂ (λ x y. is_node ns x (y ++ w.1 ∷ [])) (ap (λ z. z.cat) a) (ap (λ z. z.path) a)
            ∙ ap (is_node ns (node_at ns i).cat) (sym w.2) ∙ is-node i l)

    has-child : has_under ns c p ≡ true → false ≡ childless ps (k + 1) n
    has-child f =
        let w = under_to ns c ns p f in
        on w.0 (ancestor-node T c (p ++ w.0 ∷ []) (p ++ w.0 ∷ w.1) (record { rest = w.1; joined = append_assoc p (w.0 ∷ []) w.1 }) (inr w.2))
      where
        on : (x : Name) → RootOrNode ns c (p ++ x ∷ []) → false ≡ childless ps (k + 1) n
        on x (inl z) = absurd (omega (arith, length-append p (x ∷ []), ap length z))
        on x (inr z) =
            let i = number-node ns c (p ++ x ∷ []) z in
            let l : i.0 < n = omega (arith, i.1, ni.all-nodes) in
            child-found ps (k + 1) n i.0 l
            (nu.parent-at i.0 i.1 p x (ap (λ z. z.path) i.3) ∙ ap (λ z. number ns z.cat p) i.3 ∙ number-at T k (there k h) ∙ sym (add-one k))

    pub leaf-is : leaf ns c p ≡ childless ps (k + 1) n
    unfolding leaf
    leaf-is = same_test (leaf ns c p) (childless ps (k + 1) n) to of
      where
        to : leaf ns c p ≡ true → childless ps (k + 1) n ≡ true
        to f = go (childless ps (k + 1) n) refl
          where
            go : (b : Bool) → childless ps (k + 1) n ≡ b → b ≡ true
            go true e = refl
            go false e = let w = childless-to ps (k + 1) n e in absurd (child-ends f w.0 w.1 w.2)

        root-no : (q : Parts) → q ≢ [] → is_root q ≡ false
        root-no [] z = absurd (z refl)
        root-no (x ∷ q) z = refl

        of : childless ps (k + 1) n ≡ true → leaf ns c p ≡ true
        of f = rw (root-no p (some-path k h)) (go (has_under ns c p) refl)
          where
            go : (b : Bool) → has_under ns c p ≡ b → not b ≡ true
            go false e = refl
            go true e = absurd (true≢false (sym f ∙ sym (has-child e)))

    pub inner-is : has_under ns c p ≡ not (childless ps (k + 1) n)
    unfolding leaf
    inner-is =
        sym (double (has_under ns c p)) ∙ ap not (sym (ap (λ z. not z && not (has_under ns c p)) (path-root p (some-path k h))) ∙ leaf-is)
      where
        double : (b : Bool) → not (not b) ≡ b
        double true = refl
        double false = refl

        path-root : (q : Parts) → q ≢ [] → is_root q ≡ false
        path-root [] z = absurd (z refl)
        path-root (x ∷ q) z = refl
