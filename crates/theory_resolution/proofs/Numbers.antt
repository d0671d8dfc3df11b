-- Laws of node numbers: no node stands twice, number and path determine each other, ancestors have smaller numbers.
use Prim.Native.Nat.{ℕ, zero, suc, ◌≤◌, ◌<◌}
use mathlib.Core.Path.{◌≡◌, refl, sym, ap, ◌∙◌}
use mathlib.Core.Logic.{◌⊎◌, inl, inr}
use mathlib.Core.Bool.{Bool, true, false}
use mathlib.Core.List.{List, [], ◌∷◌, ◌++◌, foldl, append_assoc, append-nil}
use lib.Dec.{eqb}
use borrow.Author.Tests.{eqb-true, eq-eqb}
use lib.ListN.{length, take, drop, take-append-drop, length-append}
use native.Mathlib.Omega.{arith}
use Rattle.base_lists.proofs.Lists.{add-has, distinct-add, member_of, member-more, mem-at, index-member, index_at, index-take}
use Rattle.base_lists.proofs.Bools.{same_test}
use Rattle.base_lists.specs.Lists.{add_by, index_by, Distinct}
use Rattle.theory_resolution.specs.Names.{Name, Parts, same_parts, Above}
use Rattle.theory_resolution.proofs.Names.{parts-exact, snoc-injective, snoc-view}
use Rattle.theory_resolution.specs.Table.{Urn, urn, Table}
use Rattle.theory_resolution.specs.Nodes.{same_urn, member, past, add_urn, add_signal, nodes, is_node, RootOrNode, number, node_at}
use Rattle.theory_resolution.proofs.Nodes.{urn-exact, root-free}

-- the parent of u is the root or in the list
abbrev pub ParentIn : List Urn → Urn → Type 0
ParentIn a u = (p : Parts) (x : Name) → u.path ≡ p ++ x ∷ [] → (p ≡ []) ⊎ (member (urn u.cat p) a ≡ true)

-- each node of the list after a has its parent before it
abbrev pub Parents : List Urn → List Urn → Type 0
Parents a [] = Unit {0}
Parents a (u ∷ l) = ParentIn a u × Parents (a ++ u ∷ []) l

parents-last : (a l : List Urn) (u : Urn) → Parents a l → ParentIn (a ++ l) u → Parents a (l ++ u ∷ [])
parents-last a [] u ps p = (rw append-nil at p, tt)
parents-last a (v ∷ l) u ps p = (ps.0, parents-last (a ++ v ∷ []) l u ps.1 (rw (append_assoc a (v ∷ []) l) p))

-- what the nodes keep as they are found
pub record Ordered (l : List Urn) : Type 0 where
  pub distinct : Distinct same_urn l
  pub parents : Parents [] l

add-ordered : (l : List Urn) (u : Urn) → Ordered l → ParentIn l u → Ordered (add_by same_urn l u)
add-ordered l u o p = go (member u l) refl
  where
    go : (b : Bool) → member u l ≡ b → Ordered (add_by same_urn l u)
    go true e = rw e o
    go false e = record { distinct = distinct-add same_urn urn-exact l u o.distinct; parents = rw e (parents-last [] l u o.parents p) }

-- one path after another, each being the next one's parent
past-ordered : (c : ℕ) (q r : Parts) (l : List Urn) → Ordered l → (q ≡ []) ⊎ (member (urn c q) l ≡ true)
    → Ordered (foldl (λ s p. add_by same_urn s (urn c p)) l (past q r))
past-ordered c q [] l o h = o
past-ordered c q (x ∷ r) l o h = past-ordered c (q ++ x ∷ []) r (add_by same_urn l (urn c (q ++ x ∷ [])))
    (add-ordered l (urn c (q ++ x ∷ [])) o parent) (inr (add-has same_urn urn-exact l (urn c (q ++ x ∷ []))))
  where
    parent : ParentIn l (urn c (q ++ x ∷ []))
    parent p y e = rw (← snoc-injective q p x y e) h

pub nodes-ordered : (t : Table) → Ordered (nodes t)
unfolding nodes
nodes-ordered t = signals t.signals [] (record { distinct = tt; parents = tt })
  where
    urns : (sig l : List Urn) → Ordered l → Ordered (add_signal l sig)
    urns [] l o = o
    urns (u ∷ sig) l o = urns sig (add_urn l u) (past-ordered u.cat [] u.path l o (inl refl))

    signals : (sigs : List (List Urn)) (l : List Urn) → Ordered l → Ordered (foldl add_signal l sigs)
    signals [] l o = o
    signals (sig ∷ sigs) l o = signals sigs (add_signal l sig) (urns sig l o)

-- a node has a number, and stands at it
pub number-node : (ns : List Urn) (c : ℕ) (p : Parts) → is_node ns c p ≡ true → (k : ℕ) × (k < length ns) × (number ns c p ≡ suc k) × (node_at ns k ≡ urn c p)
number-node ns c p h = let w = index-member same_urn urn-exact (urn 0 []) (urn c p) ns h in (index_by same_urn (urn c p) ns, w.0, rw h, w.1)

-- a path with a number is a node
pub number-positive : (ns : List Urn) (c : ℕ) (p : Parts) (k : ℕ) → number ns c p ≡ suc k → is_node ns c p ≡ true
number-positive ns c p k e = go (is_node ns c p) refl
  where
    go : (b : Bool) → is_node ns c p ≡ b → b ≡ true
    go true f = refl
    go false f = let z : number ns c p ≡ 0 = rw f in absurd (omega (arith, e, z))

-- the node at index k has number k + 1
pub number-at : (t : Table) (k : ℕ) → k < length (nodes t) → number (nodes t) (node_at (nodes t) k).cat (node_at (nodes t) k).path ≡ suc k
number-at t k h =
    rw (member_of same_urn urn-exact (node_at (nodes t) k) (nodes t) (mem-at (nodes t) k (urn 0 []) h))
    (ap suc (index_at same_urn urn-exact (urn 0 []) (nodes t) (nodes-ordered t).distinct k h))

parents-at : (a l : List Urn) → Parents a l → (k : ℕ) → k < length l → ParentIn (a ++ take k l) (node_at l k)
parents-at a [] ps k h = absurd (omega arith)
parents-at a (u ∷ l) ps zero h = rw (append-nil a) ps.0
parents-at a (u ∷ l) ps (suc k) h = rw (append_assoc a (u ∷ []) (take k l)) at (parents-at (a ++ u ∷ []) l ps.1 k (omega arith))

-- a node's parent is the root, or has a smaller number
pub parent-smaller : (t : Table) (k : ℕ) → k < length (nodes t) → (p : Parts) (x : Name) → (node_at (nodes t) k).path ≡ p ++ x ∷ []
    → (p ≡ []) ⊎ (number (nodes t) (node_at (nodes t) k).cat p < suc k)
parent-smaller t k h p x e = go (parents-at [] (nodes t) (nodes-ordered t).parents k h p x e)
  where
    go : (p ≡ []) ⊎ (member (urn (node_at (nodes t) k).cat p) (take k (nodes t)) ≡ true) → (p ≡ []) ⊎ (number (nodes t) (node_at (nodes t) k).cat p < suc k)
    go (inl i) = inl i
    go (inr i) =
        let u : Urn = urn (node_at (nodes t) k).cat p in
        let m : member u (nodes t) ≡ true = rw (take-append-drop k (nodes t)) at (member-more same_urn urn-exact u (take k (nodes t)) (drop k (nodes t)) i) in
        inr (rw m (omega (arith, index-take same_urn urn-exact u (nodes t) k i)))

-- a node's parent is the root or a node
pub parent-node : (t : Table) (c : ℕ) (p : Parts) (x : Name) → is_node (nodes t) c (p ++ x ∷ []) ≡ true → RootOrNode (nodes t) c p
parent-node t c p x h =
    let w = number-node (nodes t) c (p ++ x ∷ []) h in
    go w.0 ((rw w.3 at (parents-at [] (nodes t) (nodes-ordered t).parents w.0 w.1)) p x refl)
  where
    go : (k : ℕ) → (p ≡ []) ⊎ (member (urn c p) (take k (nodes t)) ≡ true) → RootOrNode (nodes t) c p
    go k (inl i) = inl i
    go k (inr i) = inr (rw (take-append-drop k (nodes t)) at (member-more same_urn urn-exact (urn c p) (take k (nodes t)) (drop k (nodes t)) i))

-- the root has number 0
pub root-number : (t : Table) (c : ℕ) → number (nodes t) c [] ≡ 0
root-number t c = rw (root-free t c)

pub number-le : (ns : List Urn) (c : ℕ) (p : Parts) → number ns c p ≤ length ns
number-le ns c p = go (is_node ns c p) refl
  where
    go : (b : Bool) → is_node ns c p ≡ b → number ns c p ≤ length ns
    go true e = let w = number-node ns c p e in omega (arith, w.1, w.2)
    go false e = rw e (omega arith)

-- in a category the number determines the path
pub number_same : (t : Table) (c : ℕ) (p q : Parts) → RootOrNode (nodes t) c p → RootOrNode (nodes t) c q
    → number (nodes t) c p ≡ number (nodes t) c q → p ≡ q
number_same t c p q (inl a) (inl b) e = a ∙ sym b
number_same t c p q (inl a) (inr b) e =
    let w = number-node (nodes t) c q b in
    absurd (omega (arith, w.2, e, ap (number (nodes t) c) a, root-number t c))
number_same t c p q (inr a) (inl b) e =
    let w = number-node (nodes t) c p a in
    absurd (omega (arith, w.2, e, ap (number (nodes t) c) b, root-number t c))
number_same t c p q (inr a) (inr b) e =
    let w = number-node (nodes t) c p a in
    let v = number-node (nodes t) c q b in
    let k : w.0 ≡ v.0 = omega (arith, w.2, v.2, e) in
    ap (λ u. u.path) (sym w.3 ∙ ap (node_at (nodes t)) k ∙ v.3)

pub number-test : (t : Table) (c : ℕ) (p q : Parts) → RootOrNode (nodes t) c p → RootOrNode (nodes t) c q
    → eqb (number (nodes t) c p) (number (nodes t) c q) ≡ same_parts p q
number-test t c p q a b =
    same_test (eqb (number (nodes t) c p) (number (nodes t) c q)) (same_parts p q)
    (λ e. rw (number_same t c p q a b (eqb-true _ _ e)) (parts-exact.self q))
    (λ e. eq-eqb _ _ (ap (number (nodes t) c) (parts-exact.to p q e)))

-- a parent's number is less than its child's
pub parent-less : (t : Table) (c : ℕ) (p : Parts) (x : Name) → is_node (nodes t) c (p ++ x ∷ []) ≡ true → number (nodes t) c p < number (nodes t) c (p ++ x ∷ [])
parent-less t c p x n =
    let w = number-node (nodes t) c (p ++ x ∷ []) n in
    go w.2 (rw w.3 at (parent-smaller t w.0 w.1) p x refl)
  where
    go : {m : ℕ} → number (nodes t) c (p ++ x ∷ []) ≡ suc m → (p ≡ []) ⊎ (number (nodes t) c p < suc m)
        → number (nodes t) c p < number (nodes t) c (p ++ x ∷ [])
    go e (inl i) = omega (arith, ap (number (nodes t) c) i, root-number t c)
    go e (inr i) = omega arith

-- a node's ancestor is the root or a node, and has no greater number
ancestor-by : (t : Table) (c k : ℕ) (p r : Parts) → length r < k → RootOrNode (nodes t) c (p ++ r)
    → RootOrNode (nodes t) c p × (number (nodes t) c p ≤ number (nodes t) c (p ++ r))
ancestor-by t c zero p r h a = absurd (omega arith)
ancestor-by t c (suc k) p r h a = by (snoc-view r) (λ e l b. ancestor-by t c k p e l b)
  where
    by : (r ≡ []) ⊎ ((e : Parts) × (x : Name) × (r ≡ e ++ x ∷ []))
        → ((e : Parts) → length e < k → RootOrNode (nodes t) c (p ++ e) → RootOrNode (nodes t) c p × (number (nodes t) c p ≤ number (nodes t) c (p ++ e)))
        → RootOrNode (nodes t) c p × (number (nodes t) c p ≤ number (nodes t) c (p ++ r))
    by (inl i) ih = let j : p ++ r ≡ p = ap (λ z. p ++ z) i ∙ append-nil p in (rw j at a, omega (arith, ap (number (nodes t) c) j))
    by (inr w) ih = on (rw j at a)
      where
        j : p ++ r ≡ p ++ w.0 ++ w.1 ∷ []
        j = ap (λ z. p ++ z) w.2 ∙ sym (append_assoc p w.0 (w.1 ∷ []))

        on : RootOrNode (nodes t) c (p ++ w.0 ++ w.1 ∷ []) → RootOrNode (nodes t) c p × (number (nodes t) c p ≤ number (nodes t) c (p ++ r))
        on (inl i) = absurd (omega (arith, length-append (p ++ w.0) (w.1 ∷ []), ap length i))
        on (inr n) =
            let v = ih w.0 (omega (arith, length-append w.0 (w.1 ∷ []), ap length w.2)) (parent-node t c (p ++ w.0) w.1 n) in
            (v.0, omega (arith, v.1, parent-less t c (p ++ w.0) w.1 n, ap (number (nodes t) c) j))

module _ (t : Table) (c : ℕ) (p u : Parts) (a : Above p u) (n : RootOrNode (nodes t) c u) where
  above : RootOrNode (nodes t) c p × (number (nodes t) c p ≤ number (nodes t) c (p ++ a.rest))
  above = ancestor-by t c (suc (length a.rest)) p a.rest (omega arith) (rw a.joined n)

  pub ancestor-node : RootOrNode (nodes t) c p
  ancestor-node = above.0

  pub ancestor-le : number (nodes t) c p ≤ number (nodes t) c u
  ancestor-le = omega (arith, above.1, ap (number (nodes t) c) a.joined)

-- ancestors come before descendants: a proper ancestor has a smaller number
pub ancestor-less : (t : Table) (c : ℕ) (p : Parts) (x : Name) (r : Parts) → is_node (nodes t) c (p ++ x ∷ r) ≡ true
    → number (nodes t) c p < number (nodes t) c (p ++ x ∷ r)
ancestor-less t c p x r n = on (ancestor-node t c (p ++ x ∷ []) (p ++ x ∷ r) child (inr n))
  where
    child : Above (p ++ x ∷ []) (p ++ x ∷ r)
    child = record { rest = r; joined = append_assoc p (x ∷ []) r }

    on : RootOrNode (nodes t) c (p ++ x ∷ []) → number (nodes t) c p < number (nodes t) c (p ++ x ∷ r)
    on (inl i) = absurd (omega (arith, length-append p (x ∷ []), ap length i))
    on (inr k) = omega (arith, parent-less t c p x k, ancestor-le t c (p ++ x ∷ []) (p ++ x ∷ r) child (inr n))
