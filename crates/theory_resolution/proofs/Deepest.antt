-- Laws of the deepest node that is a path or above it, of leaves, and of nodes with nodes under them.
use Prim.Native.Nat.{ℕ}
use mathlib.Core.Path.{◌≡◌, refl, sym, ap, ◌∙◌}
use mathlib.Core.Logic.{◌⊎◌, inl, inr}
use mathlib.Core.Bool.{Bool, true, false, not, ◌&&◌, false≢true, and-eq-true_iff, or-true, and-false}
use mathlib.Core.List.{List, [], ◌∷◌, ◌++◌, Memᴰ}
use lib.Dec.{eqb}
use lib.ListN.{length, length-append}
use native.Mathlib.Omega.{arith}
use borrow.Author.Tests.{eqb-true, eq-eqb, not-true}
use Rattle.base_lists.proofs.Lists.{member_of, member-to}
use Rattle.theory_resolution.specs.Names.{Name, Parts, same_parts, proper_ancestor, longer, candidates, Above}
use Rattle.theory_resolution.proofs.Names.{parts-exact, below_self, longer-append, longer-first, in-longer, proper-to}
use Rattle.theory_resolution.specs.Table.{Urn, urn}
use Rattle.theory_resolution.specs.Nodes.{same_urn, member, is_node, RootOrNode, has_under, is_inner, is_root, leaf, first_node, deepest}
use Rattle.theory_resolution.proofs.Names.{above-self, above_root, between}
use Rattle.theory_resolution.proofs.Nodes.{urn-exact}

module _ (ns : List Urn) (c : ℕ) where
  first-in : (ps : List Parts) → (first_node ns c ps ≡ []) ⊎ Memᴰ (first_node ns c ps) ps
  first-in [] = inl refl
  first-in (p ∷ ps) = go (is_node ns c p) refl (first-in ps)
    where
      go : (b : Bool) → is_node ns c p ≡ b → (first_node ns c ps ≡ []) ⊎ Memᴰ (first_node ns c ps) ps
          → (first_node ns c (p ∷ ps) ≡ []) ⊎ Memᴰ (first_node ns c (p ∷ ps)) (p ∷ ps)
      go true e ih = inr (rw e (mathlib.Core.List.Memᴰ.head refl))
      go false e (inl h) = inl (rw e h)
      go false e (inr m) = inr (rw e (mathlib.Core.List.Memᴰ.tail m))

  first-stop : (ps : List Parts) (p : Parts) (qs : List Parts) → is_node ns c p ≡ true → Memᴰ (first_node ns c (ps ++ p ∷ qs)) (ps ++ p ∷ [])
  first-stop [] p qs h = rw h (mathlib.Core.List.Memᴰ.head refl)
  first-stop (q ∷ ps) p qs h = go (is_node ns c q) refl (first-stop ps p qs h)
    where
      go : (b : Bool) → is_node ns c q ≡ b → Memᴰ (first_node ns c (ps ++ p ∷ qs)) (ps ++ p ∷ [])
          → Memᴰ (first_node ns c ((q ∷ ps) ++ p ∷ qs)) ((q ∷ ps) ++ p ∷ [])
      go true e m = rw e (mathlib.Core.List.Memᴰ.head refl)
      go false e m = rw e (mathlib.Core.List.Memᴰ.tail m)

  -- the deepest node is the path or its ancestor
  pub deep-above : (u : Parts) → Above (deepest ns c u) u
  unfolding deepest
  deep-above u = go (first-in (longer [] u))
    where
      go : (deepest ns c u ≡ []) ⊎ Memᴰ (deepest ns c u) (longer [] u) → Above (deepest ns c u) u
      go (inl e) = rw e (above_root u)
      go (inr m) =
          let s = in-longer [] u (deepest ns c u) m in
          record { rest = s.last; joined = ap (λ l. l ++ s.last) (sym s.is) ∙ s.on }

  -- and every node on the way is it or its ancestor
  pub deep-most : (p u : Parts) → is_node ns c p ≡ true → Above p u → Above p (deepest ns c u)
  unfolding deepest
  deep-most [] u h a = above_root (deepest ns c u)
  deep-most (x ∷ p) u h a =
      let f = longer-first [] x p in
      let k : longer [] u ≡ longer (x ∷ p) a.rest ++ (x ∷ p) ∷ f.0 = ap (longer []) (sym a.joined)
      ∙ longer-append [] (x ∷ p) a.rest ∙ ap (λ l. longer (x ∷ p) a.rest ++ l) f.1 in
      let m : Memᴰ (deepest ns c u) (candidates (x ∷ p) a.rest) = rw k (first-stop (longer (x ∷ p) a.rest) (x ∷ p) f.0 h) in
      (between (x ∷ p) a.rest (deepest ns c u) m).0

  -- some node lies under a path, and back
  pub under_of : (ms : List Urn) (q : Parts) (x : Name) (r : Parts) → member (urn c (q ++ x ∷ r)) ms ≡ true → has_under ms c q ≡ true
  under_of [] q x r h = absurd (false≢true h)
  under_of (n ∷ ms) q x r h = go (same_urn (urn c (q ++ x ∷ r)) n) refl (λ h'. under_of ms q x r h')
    where
      go : (b : Bool) → same_urn (urn c (q ++ x ∷ r)) n ≡ b → (member (urn c (q ++ x ∷ r)) ms ≡ true → has_under ms c q ≡ true) → has_under (n ∷ ms) c q ≡ true
      go true e ih =
          let k = (and-eq-true_iff (eqb c n.cat) (same_parts (q ++ x ∷ r) n.path)).0 e in
          rw (← eqb-true c n.cat k.0, eq-eqb c c refl, ← parts-exact.to (q ++ x ∷ r) n.path k.1, below_self q (x ∷ r))
      go false e ih = rw (ih (rw e at h)) (or-true (eqb n.cat c && proper_ancestor q n.path))

  pub under_to : (ms : List Urn) (p : Parts) → has_under ms c p ≡ true → (x : Name) × (r : Parts) × (is_node ms c (p ++ x ∷ r) ≡ true)
  under_to [] p h = absurd (false≢true h)
  under_to (v ∷ ms) p h = go (eqb v.cat c && proper_ancestor p v.path) refl (under_to ms p)
    where
      go : (b : Bool) → eqb v.cat c && proper_ancestor p v.path ≡ b
          → (has_under ms c p ≡ true → (x : Name) × (r : Parts) × (is_node ms c (p ++ x ∷ r) ≡ true))
          → (x : Name) × (r : Parts) × (is_node (v ∷ ms) c (p ++ x ∷ r) ≡ true)
      go false e ih =
          let w = ih (rw e at h) in (
            w.0,
            w.1,
            member_of same_urn urn-exact (urn c (p ++ w.0 ∷ w.1)) (v ∷ ms)
                (mathlib.Core.List.Memᴰ.tail (member-to same_urn urn-exact (urn c (p ++ w.0 ∷ w.1)) ms w.2)),
          )
      go true e ih =
          let k = (and-eq-true_iff (eqb v.cat c) (proper_ancestor p v.path)).0 e in
          let w = proper-to p v.path k.1 in
          let i : urn c (p ++ w.0 ∷ w.1) ≡ v = λ z. record { cat = sym (eqb-true v.cat c k.0) z; path = w.2 z } in
          (w.0, w.1, member_of same_urn urn-exact (urn c (p ++ w.0 ∷ w.1)) (v ∷ ms) (mathlib.Core.List.Memᴰ.head i))

  -- no node lies under a leaf
  pub leaf-ends : (q : Parts) (x : Name) (r : Parts) → leaf ns c q ≡ true → is_node ns c (q ++ x ∷ r) ≡ true → ⊥
  unfolding leaf
  leaf-ends q x r h k =
      let a = (and-eq-true_iff (not (is_root q)) (not (has_under ns c q))).0 h in
      let b : false ≡ true = rw (under_of ns q x r k) at a.1 in
      false≢true b

-- a node or the root above u is above the deepest
pub above-deep : (ns : List Urn) (c : ℕ) (p u : Parts) → (p ≡ []) ⊎ (is_node ns c p ≡ true) → Above p u → Above p (deepest ns c u)
above-deep ns c p u (inl e) a = rw e (above_root (deepest ns c u))
above-deep ns c p u (inr n) a = deep-most ns c p u n a

first-node : (ns : List Urn) (c : ℕ) (ps : List Parts) → RootOrNode ns c (first_node ns c ps)
first-node ns c [] = inl refl
first-node ns c (p ∷ ps) = go (is_node ns c p) refl (first-node ns c ps)
  where
    go : (b : Bool) → is_node ns c p ≡ b → RootOrNode ns c (first_node ns c ps) → RootOrNode ns c (first_node ns c (p ∷ ps))
    go true e ih = rw e (inr e)
    go false e ih = rw e ih

-- the deepest node is a node, or the root
pub deepest-node : (ns : List Urn) (c : ℕ) (u : Parts) → RootOrNode ns c (deepest ns c u)
unfolding deepest
deepest-node ns c u = first-node ns c (longer [] u)

-- a path past the deepest node is no node
pub past-no-node : (ns : List Urn) (c : ℕ) (u : Parts) (y : Name) (f : Parts) → deepest ns c u ++ y ∷ f ≡ u → is_node ns c u ≡ false
past-no-node ns c u y f j = go (is_node ns c u) refl
  where
    go : (b : Bool) → is_node ns c u ≡ b → b ≡ false
    go false e = refl
    go true e =
        let a = deep-most ns c u u e (above-self u) in
        absurd (omega (arith, length-append (deepest ns c u) (y ∷ f), ap length j, length-append u a.rest, ap length a.joined))

-- a node with a node under it, by its path
pub inner_of : (ns : List Urn) (c : ℕ) (p : Parts) → is_node ns c p ≡ true → (x : Name) (r : Parts) → is_node ns c (p ++ x ∷ r) ≡ true → is_inner ns c p ≡ true
inner_of ns c p n x r m = (and-eq-true_iff (is_node ns c p) (has_under ns c p)).1 (n, under_of ns c ns p x r m)

pub inner-none : (ns : List Urn) (c : ℕ) (p : Parts) → (is_node ns c p ≡ true → (x : Name) (r : Parts) → is_node ns c (p ++ x ∷ r) ≡ false)
    → is_inner ns c p ≡ false
inner-none ns c p none = go (is_inner ns c p) refl
  where
    go : (b : Bool) → is_inner ns c p ≡ b → b ≡ false
    go false e = refl
    go true e =
        let k = (and-eq-true_iff (is_node ns c p) (has_under ns c p)).0 e in
        let w = under_to ns c ns p k.1 in
        absurd (false≢true (sym (none k.0 w.0 w.1) ∙ w.2))

-- it is a node, and no leaf
pub inner-node : (ns : List Urn) (c : ℕ) (p : Parts) → is_inner ns c p ≡ true → is_node ns c p ≡ true
inner-node ns c p h = ((and-eq-true_iff (is_node ns c p) (has_under ns c p)).0 h).0

pub inner-no-leaf : (ns : List Urn) (c : ℕ) (p : Parts) → is_inner ns c p ≡ true → leaf ns c p ≡ false
unfolding leaf
inner-no-leaf ns c p h = rw ((and-eq-true_iff (is_node ns c p) (has_under ns c p)).0 h).1 (and-false (not (is_root p)))

pub leaf-no-inner : (ns : List Urn) (c : ℕ) (p : Parts) → leaf ns c p ≡ true → is_inner ns c p ≡ false
unfolding leaf
leaf-no-inner ns c p h =
    let a = (and-eq-true_iff (not (is_root p)) (not (has_under ns c p))).0 h in
    rw (not-true (has_under ns c p) a.1) (and-false (is_node ns c p))
