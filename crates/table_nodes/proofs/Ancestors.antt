-- Laws of nodes and their ancestors: those of a node are nodes, and what is under a path that is no node is none either.
use Prim.Native.Nat.{ℕ, ◌<◌}
use mathlib.Core.Path.{◌≡◌, refl, ap, sym, ◌∙◌, subst}
use mathlib.Core.Logic.{inl, inr, ◌≢◌}
use mathlib.Core.Bool.{true, false, true≢false, and-false}
use mathlib.Core.List.{List, [], ◌∷◌, ◌++◌, foldl, foldl-append, append_assoc}
use native.Mathlib.Omega.{arith}
use lib.ListN.{length, length-append}
use lib.Dec.{eqb}
use Rattle.base_lists.proofs.Lists.{not_last}
use Rattle.base_lists.specs.Lists.{add_by}
use Rattle.base_lists.proofs.Bools.{by_test}
use Rattle.theory_resolution.specs.Names.{Name, Parts, same_parts}
use Rattle.theory_resolution.specs.Table.{Urn, urn, Table}
use Rattle.theory_resolution.specs.Nodes.{same_urn, is_node, nodes, prefixes, add_urn, RootOrNode, past as begins}
use Rattle.theory_resolution.proofs.Names.{parts-exact}
use Rattle.theory_resolution.proofs.Nodes.{urn-exact}
use Rattle.theory_resolution.proofs.Numbers.{ancestor-node}

abbrev pub adder : ℕ → List Urn → Parts → List Urn
adder c s p = add_by same_urn s (urn c p)

-- a path is not a shorter one
pub longer-other : (p q : Parts) → length p < length q → same_parts q p ≡ false
longer-other p q h = by_test (same_parts q p) (λ b. absurd (omega (arith, ap length (parts-exact.to q p b)))) (λ b. b)

-- another path becomes no node by adding one that is none
pub other-absent : (ns : List Urn) (c : ℕ) (p q : Parts) → is_node ns c q ≡ false → same_parts q p ≡ false → is_node (adder c ns p) c q ≡ false
other-absent ns c p q h e = by_test (is_node ns c p) (λ b. rw b h)
    (λ b. rw b (not_last same_urn urn-exact (urn c q) (urn c p) ns h (rw e (and-false (eqb c c)))))

past-snoc : (q r : Parts) (x : Name) → begins q (r ++ x ∷ []) ≡ begins q r ++ (q ++ (r ++ x ∷ [])) ∷ []
past-snoc q [] x = refl
past-snoc q (y ∷ r) x =
    ap (λ z. (q ++ y ∷ []) ∷ z) (past-snoc (q ++ y ∷ []) r x ∙ ap (λ z. begins (q ++ y ∷ []) r ++ z ∷ []) (append_assoc q (y ∷ []) (r ++ x ∷ [])))

-- the ancestors of a node are nodes: nothing is added
module _ (us : List Urn) (c : ℕ) (p : Parts) where
  ns : List Urn
  ns = foldl add_urn [] us

  one : Table
  one = record { cats = 0; signals = us ∷ [] }

  same : nodes one ≡ foldl add_urn [] us
  unfolding nodes ns one
  same = refl

  nothing : is_node (foldl add_urn [] us) c p ≡ true → (q r : Parts) → q ++ r ≡ p → foldl (adder c) (foldl add_urn [] us) (begins q r) ≡ foldl add_urn [] us
  nothing m q [] e = refl
  nothing m q (x ∷ r) e = go (subst (λ (l : List Urn). RootOrNode l c (q ++ x ∷ [])) same
      (ancestor-node one c (q ++ x ∷ []) p (record { rest = r; joined = append_assoc q (x ∷ []) r ∙ e })
      (inr (subst (λ (l : List Urn). is_node l c p ≡ true) (sym same) m)))) (nothing m (q ++ x ∷ []) r (append_assoc q (x ∷ []) r ∙ e))
    where
      go : RootOrNode (foldl add_urn [] us) c (q ++ x ∷ []) → foldl (adder c) (foldl add_urn [] us) (begins (q ++ x ∷ []) r) ≡ foldl add_urn [] us
          → foldl (adder c) (foldl add_urn [] us) (begins q (x ∷ r)) ≡ foldl add_urn [] us
      go (inl z) ih = absurd (omega (arith, ap length z, length-append q (x ∷ [])))
      go (inr z) ih = ap (λ (l : List Urn). foldl (adder c) l (begins (q ++ x ∷ []) r)) (rw z) ∙ ih

  pub closed : is_node (foldl add_urn [] us) c p ≡ true → add_urn (foldl add_urn [] us) (urn c p) ≡ foldl add_urn [] us
  closed m = nothing m [] p refl

  -- under a path that is no node there is none, nor if the path is added
  child-absent : p ≢ [] → is_node (foldl add_urn [] us) c p ≡ false → (x : Name) → is_node (foldl add_urn [] us) c (p ++ x ∷ []) ≡ false
  child-absent s h x = by_test (is_node (foldl add_urn [] us) c (p ++ x ∷ []))
      (λ b. absurd (go (subst (λ (l : List Urn). RootOrNode l c p) same (ancestor-node one c p (p ++ x ∷ []) (record { rest = x ∷ []; joined = refl })
      (inr (subst (λ (l : List Urn). is_node l c (p ++ x ∷ []) ≡ true) (sym same) b))))))
      (λ b. b)
    where
      go : RootOrNode (foldl add_urn [] us) c p → ⊥
      go (inl z) = s z
      go (inr z) = true≢false (sym z ∙ h)

  pub bare : p ≢ [] → is_node (foldl add_urn [] us) c p ≡ false → (x : Name) → is_node (adder c (foldl add_urn [] us) p) c (p ++ x ∷ []) ≡ false
  bare s h x = other-absent (foldl add_urn [] us) c p (p ++ x ∷ []) (child-absent s h x) (longer-other p (p ++ x ∷ []) (omega (arith, length-append p (x ∷ []))))

  -- a path is added under a node as a URN is
  pub added-last : RootOrNode (foldl add_urn [] us) c p → (x : Name) → adder c (foldl add_urn [] us) (p ++ x ∷ [])
      ≡ foldl add_urn [] (us ++ urn c (p ++ x ∷ []) ∷ [])
  added-last m x =
      sym (foldl-append add_urn [] us (urn c (p ++ x ∷ []) ∷ [])
      ∙ ap (foldl (adder c) (foldl add_urn [] us)) (past-snoc [] p x)
      ∙ foldl-append (adder c) (foldl add_urn [] us) (prefixes p) ((p ++ x ∷ []) ∷ [])
      ∙ ap (λ (l : List Urn). adder c l (p ++ x ∷ [])) (by m))
    where
      by : RootOrNode (foldl add_urn [] us) c p → add_urn (foldl add_urn [] us) (urn c p) ≡ foldl add_urn [] us
      by (inl z) = ap (λ q. add_urn (foldl add_urn [] us) (urn c q)) z
      by (inr z) = closed z
