-- The nodes are those of the table that a tree says, in their order, exactly if the scan by numbers says so.
use Prim.Native.Nat.{ℕ, zero, suc, ◌+◌, ◌-◌, ◌≤◌, ◌<◌}
use mathlib.Core.Path.{◌≡◌, refl, ap, ap₂, sym, ◌∙◌, subst}
use mathlib.Core.Logic.{◌⊎◌, inl, inr}
use mathlib.Core.Bool.{Bool, true, false, cond, ◌&&◌, ◌||◌, and-eq-true_iff, true≢false, false≢true}
use mathlib.Core.Option.{Option, none, some}
use mathlib.Core.List.{List, [], ◌∷◌, ◌++◌, map, foldl, foldl-append, append_assoc, append-nil, Memᴰ, map-append}
use mathlib.Core.List.{foldl-map}
use native.Mathlib.Nat.{add-zero, zero-add}
use native.Mathlib.Decide.{dec_lt, ℕ_discrete}
use native.Mathlib.Omega.{arith}
use lib.ListN.{length, take, length-append}
use lib.Seq.{get_or-append_seam, take-suc, take_all, get_or-take, length-take-le, get_or_at}
use lib.Dec.{eqb, leb, ltb}
use borrow.Author.Tests.{eq-eqb, eqb-true, leb-true, leb-false}
use Rattle.base_lists.proofs.Tests.{all-joined, all-mem, no-two-of}
use Rattle.base_lists.specs.Tests.{no_two, all as every}
use Rattle.base_lists.proofs.Bools.{by_test, same_test}
use Rattle.base_lists.specs.Numbers.{within}
use Rattle.base_lists.proofs.Lists.{Extends, extends-self, extends-trans, at-extends, add-extends, mem-at, member_of, list-exact, index-member}
use Rattle.base_lists.proofs.Lists.{index_at, index-take}
use Rattle.base_lists.specs.Lists.{add_by, index_by, same_list, Distinct, all_below, joined}
use Rattle.theory_resolution.specs.Names.{Name, Parts, same_name}
use Rattle.theory_resolution.specs.Table.{Urn, urn}
use Rattle.theory_resolution.specs.Nodes.{same_urn, member, past, prefixes, add_urn, nodes, node_at}
use Rattle.theory_resolution.proofs.Names.{name-exact, snoc-injective}
use Rattle.theory_resolution.proofs.Nodes.{urn-exact}
use Rattle.theory_resolution.proofs.Numbers.{nodes-ordered}
use Rattle.table_places.proofs.Flat.{nodes-joined}
use Rattle.table_decode.proofs.Accepting.{two_at}
use Rattle.tree_sections.specs.Tree.{Node, node_of, Tree}
use Rattle.tree_forms.specs.Meaning.{urn_of, node_urn, urns_after, urns_of, table_of_tree, last_name}
use Rattle.tree_forms.specs.Refusals.{in_order, numbered, all_parented, grown}
use Rattle.tree_nodes.specs.Scan.{same_node, linked, reached, is_count, scanned}
use Rattle.tree_forms.proofs.Writing.{Every}
use Rattle.tree_forms.proofs.Growing.{suc-zero, under, under-is, all_under, after-extends, after-length, last_snoc}

-- what the node at index i says of its URN
pub record Placed (us : List Urn) (n : Node) (i : ℕ) : Type 0 where
  pub cat : (node_at us i).cat ≡ n.category
  pub path : (node_at us i).path ≡ (urn_of us n.parent).path ++ n.last ∷ []
  pub low : n.parent ≤ i
  pub same : (n.parent ≡ 0) ⊎ ((urn_of us n.parent).cat ≡ n.category)

urn-extends : (a us : List Urn) (k : ℕ) → Extends a us → k ≤ length a → urn_of us k ≡ urn_of a k
urn-extends a us zero x h = refl
urn-extends a us (suc j) x h = at-extends (urn 0 []) x j (omega arith)

parent_is : (a : List Urn) (n : Node) → under a n ≡ true → (n.parent ≤ length a) × ((n.parent ≡ 0) ⊎ ((urn_of a n.parent).cat ≡ n.category))
unfolding under
parent_is a n e = go n.parent e
  where
    go : (k : ℕ) → eqb k 0 || (leb k (length a) && eqb (urn_of a k).cat n.category) ≡ true → (k ≤ length a) × ((k ≡ 0) ⊎ ((urn_of a k).cat ≡ n.category))
    go zero e = (omega arith, inl refl)
    go (suc j) e =
        let b = (and-eq-true_iff (leb (suc j) (length a)) (eqb (node_at a j).cat n.category)).0 (rw (suc-zero j) at e) in
        (leb-true (suc j) (length a) b.0, inr (eqb-true (node_at a j).cat n.category b.1))

pub placed-after : (a : List Urn) (ns : List Node) → all_under a ns ≡ true → (i : ℕ) → i < length ns → Placed (urns_after a ns) (node_of ns i) (length a + i)
unfolding urns_after all_under
placed-after a [] e i h = absurd (omega arith)
placed-after a (n ∷ ns) e zero h =
    let b = (and-eq-true_iff (under a n) (all_under (a ++ node_urn a n ∷ []) ns)).0 e in
    let us : List Urn = urns_after (a ++ node_urn a n ∷ []) ns in
    let x : Extends (a ++ node_urn a n ∷ []) us = after-extends (a ++ node_urn a n ∷ []) ns in
    let y : Extends a us = extends-trans (record { more = node_urn a n ∷ []; joined = refl }) x in
    let p = parent_is a n b.0 in
    let q : urn_of us n.parent ≡ urn_of a n.parent = urn-extends a us n.parent y p.0 in
    let l : length a < length (a ++ node_urn a n ∷ []) = omega (arith, length-append a (node_urn a n ∷ [])) in
    let u : node_at us (length a + 0) ≡ node_urn a n =
    ap (node_at us) (add-zero (length a)) ∙ at-extends (urn 0 []) x (length a) l ∙ get_or-append_seam a (node_urn a n) [] (urn 0 []) in
    record {
      cat = ap (λ (v : Urn). v.cat) u;
      path = ap (λ (v : Urn). v.path) u ∙ ap (λ (v : Urn). v.path ++ n.last ∷ []) (sym q);
      low = omega (arith, p.0);
      same = rw q p.1;
    }
placed-after a (n ∷ ns) e (suc i) h =
    let b = (and-eq-true_iff (under a n) (all_under (a ++ node_urn a n ∷ []) ns)).0 e in
    let k : length (a ++ node_urn a n ∷ []) + i ≡ length a + suc i = omega (arith, length-append a (node_urn a n ∷ [])) in
    subst (λ (j : ℕ). Placed (urns_after (a ++ node_urn a n ∷ []) ns) (node_of ns i) j) k (placed-after (a ++ node_urn a n ∷ []) ns b.1 i (omega arith))

-- a path with one more part adds one more
past-snoc : (q r : Parts) (x : Name) → past q (r ++ x ∷ []) ≡ past q r ++ (q ++ r ++ x ∷ []) ∷ []
past-snoc q [] x = ap (λ (z : Parts). (z ++ x ∷ []) ∷ []) (sym (append-nil q))
past-snoc q (y ∷ r) x =
    ap (λ z. (q ++ y ∷ []) ∷ z) (past-snoc (q ++ y ∷ []) r x ∙ ap (λ (z : Parts). past (q ++ y ∷ []) r ++ (z ++ x ∷ []) ∷ []) (append_assoc q (y ∷ []) r))

add-snoc : (seen : List Urn) (c : ℕ) (p : Parts) (x : Name) → add_urn seen (urn c (p ++ x ∷ [])) ≡ add_by same_urn (add_urn seen (urn c p)) (urn c (p ++ x ∷ []))
add-snoc seen c p x =
    let f : List Urn → Parts → List Urn = λ s q. add_by same_urn s (urn c q) in
    ap (foldl f seen) (past-snoc [] p x) ∙ foldl-append f seen (prefixes p) ((p ++ x ∷ []) ∷ [])

urn-extends-add : (seen : List Urn) (u : Urn) → Extends seen (add_urn seen u)
urn-extends-add seen u = go seen (prefixes u.path)
  where
    go : (s : List Urn) (ps : List Parts) → Extends s (foldl (λ s p. add_by same_urn s (urn u.cat p)) s ps)
    go s [] = extends-self s
    go s (p ∷ ps) = extends-trans (add-extends same_urn urn-exact s (urn u.cat p)) (go (add_by same_urn s (urn u.cat p)) ps)

urns-extend : (seen us : List Urn) → Extends seen (foldl add_urn seen us)
urns-extend seen [] = extends-self seen
urns-extend seen (u ∷ us) = extends-trans (urn-extends-add seen u) (urns-extend (add_urn seen u) us)

module _ (ns : List Node) (us : List Urn) (size : length us ≡ length ns) (facts : (i : ℕ) → i < length ns → Placed us (node_of ns i) i) where
  -- with the ancestors of node k and itself
  abbrev add_node : List Urn → ℕ → List Urn
  add_node seen k = add_urn seen (urn_of us k)

  add-next : (seen : List Urn) (i : ℕ) → i < length ns → add_node seen (suc i) ≡ add_by same_urn (add_node seen (node_of ns i).parent) (node_at us i)
  add-next seen i h =
      let f = facts i h in
      let c : ℕ = (node_of ns i).category in
      let k : ℕ = (node_of ns i).parent in
      let x : Name = (node_of ns i).last in
      let p : Parts = (urn_of us k).path in
      let e : node_at us i ≡ urn c (p ++ x ∷ []) = ap₂ urn f.cat f.path in
      ap (add_urn seen) e ∙ add-snoc seen c p x ∙ ap₂ (add_by same_urn) (above f.same) (sym e)
    where
      above : ((node_of ns i).parent ≡ 0) ⊎ ((urn_of us (node_of ns i).parent).cat ≡ (node_of ns i).category)
          → add_urn seen (urn (node_of ns i).category (urn_of us (node_of ns i).parent).path) ≡ add_node seen (node_of ns i).parent
      above (inl z) = ap (λ k. add_urn seen (urn (node_of ns i).category (urn_of us k).path)) z ∙ sym (ap (add_node seen) z)
      above (inr z) = ap (λ c. add_urn seen (urn c (urn_of us (node_of ns i).parent).path)) (sym z)

  add-there : (l : List Urn) (u : Urn) → member u l ≡ true → add_by same_urn l u ≡ l
  add-there l u e = rw e

  add-new : (l : List Urn) (u : Urn) → member u l ≡ false → add_by same_urn l u ≡ l ++ u ∷ []
  add-new l u e = rw e

  -- a node among the first m adds nothing to them
  old-by : (b m k : ℕ) → k < b → k ≤ m → m ≤ length ns → add_node (take m us) k ≡ take m us
  old-by zero m k l h n = absurd (omega arith)
  old-by (suc b) m zero l h n = refl
  old-by (suc b) m (suc i) l h n =
      let j : i < length ns = omega arith in
      let lo = (facts i j).low in
      let t : length (take m us) ≡ m = length-take-le m us (omega arith) in
      let v : node_at (take m us) i ≡ node_at us i = get_or-take m us i (urn 0 []) (omega arith) in
      let w : member (node_at us i) (take m us) ≡ true =
      member_of same_urn urn-exact (node_at us i) (take m us)
      (subst (λ (u : Urn). Memᴰ u (take m us)) v (mem-at (take m us) i (urn 0 []) (omega (arith, t)))) in
      add-next (take m us) i j
      ∙ ap (λ z. add_by same_urn z (node_at us i)) (old-by b m (node_of ns i).parent (omega (arith, lo)) (omega (arith, lo)) n)
      ∙ add-there (take m us) (node_at us i) w

  pub old-node : (m k : ℕ) → k ≤ m → m ≤ length ns → add_node (take m us) k ≡ take m us
  old-node m k h n = old-by (suc k) m k (omega arith) h n

  module _ (d : Distinct same_urn us) where
    not_first : (m i : ℕ) → m ≤ i → i < length ns → member (node_at us i) (take m us) ≡ false
    not_first m i h n = go (member (node_at us i) (take m us)) refl
      where
        go : (b : Bool) → member (node_at us i) (take m us) ≡ b → b ≡ false
        go false e = refl
        go true e = absurd (omega (arith, index-take same_urn urn-exact (node_at us i) us m e, index_at same_urn urn-exact (urn 0 []) us d i (omega arith)))

    next-node : (i : ℕ) → i < length ns → add_by same_urn (take i us) (node_at us i) ≡ take (suc i) us
    next-node i h = add-new (take i us) (node_at us i) (not_first i i (omega arith) h) ∙ sym (take-suc us i (urn 0 []) (omega arith))

    link-more : (m i : ℕ) → m < i → linked ns m (suc i) ≡ (linked ns m i && eqb (node_of ns i).parent i)
    unfolding linked all_below
    link-more m i h =
        let k : suc i - suc m ≡ suc (i - suc m) = omega arith in
        let j : suc m + (i - suc m) ≡ i = omega arith in
        rw (k, j)

    link_start : (m : ℕ) → linked ns m (suc m) ≡ true
    unfolding linked all_below
    link_start m = let k : suc m - suc m ≡ 0 = omega arith in rw k

    -- linked nodes after the first m are the next ones
    new-nodes : (m k : ℕ) → m < k → k ≤ length ns → linked ns m k ≡ true → add_node (take m us) k ≡ take k us
    new-nodes m zero h n e = absurd (omega arith)
    new-nodes m (suc i) h n e = go (ℕ_discrete m i) (λ a b. new-nodes m i a (omega arith) b)
      where
        go : Dec (m ≡ i) → (m < i → linked ns m i ≡ true → add_node (take m us) i ≡ take i us) → add_node (take m us) (suc i) ≡ take (suc i) us
        go (yes q) ih =
            let lo = (facts i (omega arith)).low in
            add-next (take m us) i (omega arith)
            ∙ ap (λ z. add_by same_urn z (node_at us i)) (old-node m (node_of ns i).parent (omega (arith, lo)) (omega arith) ∙ ap (λ z. take z us) q)
            ∙ next-node i (omega arith)
        go (no q) ih =
            let b = (and-eq-true_iff (linked ns m i) (eqb (node_of ns i).parent i)).0 (sym (link-more m i (omega arith)) ∙ e) in
            let p : (node_of ns i).parent ≡ i = eqb-true (node_of ns i).parent i b.1 in
            add-next (take m us) i (omega arith)
            ∙ ap (λ z. add_by same_urn z (node_at us i)) (ap (add_node (take m us)) p ∙ ih (omega arith) b.0)
            ∙ next-node i (omega arith)

    -- a list that ends in the node at index i and begins the list of all nodes has i + 1 of them
    ends_at : (m i : ℕ) → m ≤ length ns → i < length ns → Extends (take m us ++ node_at us i ∷ []) us → m ≡ i
    ends_at m i h n x =
        let t : length (take m us) ≡ m = length-take-le m us (omega arith) in
        let l = length-append (take m us) (node_at us i ∷ []) in
        let s = ap length x.joined in
        let r = length-append (take m us ++ node_at us i ∷ []) x.more in
        let k : m < length us = omega arith in
        let v : node_at us m ≡ node_at us i =
        at-extends (urn 0 []) x m (omega arith) ∙ get_or_at (take m us) (node_at us i) [] (urn 0 []) m t in
        sym (index_at same_urn urn-exact (urn 0 []) us d m k) ∙ ap (λ (u : Urn). index_by same_urn u us) v
        ∙ index_at same_urn urn-exact (urn 0 []) us d i (omega arith)

    -- if the list goes on as that of all nodes does, the nodes are linked
    links-by : (b m k : ℕ) → k < b → m < k → k ≤ length ns → Extends (add_node (take m us) k) us → linked ns m k ≡ true
    links-by zero m k l h n x = absurd (omega arith)
    links-by (suc b) m zero l h n x = absurd (omega arith)
    links-by (suc b) m (suc i) l h n x = go (dec_lt m (node_of ns i).parent) (λ a c e y. links-by b m (node_of ns i).parent a c e y)
      where
        j : i < length ns
        j = omega arith

        lo : (node_of ns i).parent ≤ i
        lo = (facts i j).low

        inner : Extends (add_node (take m us) (node_of ns i).parent) us
        inner = extends-trans (add-extends same_urn urn-exact (add_node (take m us) (node_of ns i).parent) (node_at us i))
            (subst (λ (z : List Urn). Extends z us) (add-next (take m us) i j) x)

        ends : (k : ℕ) → add_node (take m us) (node_of ns i).parent ≡ take k us → k ≤ i → k ≡ i
        ends k e a =
            ends_at k i (omega arith) j
            (subst (λ (z : List Urn). Extends z us) (add-next (take m us) i j ∙ ap (λ z. add_by same_urn z (node_at us i)) e
            ∙ add-new (take k us) (node_at us i) (not_first k i a j)) x)

        go : Dec (m < (node_of ns i).parent)
            → ((node_of ns i).parent < b → m < (node_of ns i).parent → (node_of ns i).parent ≤ length ns
            → Extends (add_node (take m us) (node_of ns i).parent) us → linked ns m (node_of ns i).parent ≡ true)
            → linked ns m (suc i) ≡ true
        go (yes q) ih =
            let a = ih (omega (arith, lo)) q (omega (arith, lo)) inner in
            let p : (node_of ns i).parent ≡ i = ends (node_of ns i).parent (new-nodes m (node_of ns i).parent q (omega (arith, lo)) a) lo in
            link-more m i (omega arith) ∙ ap₂ ◌&&◌ (ap (linked ns m) (sym p) ∙ a) (eq-eqb (node_of ns i).parent i p)
        go (no q) ih =
            let p : m ≡ i = ends m (old-node m (node_of ns i).parent (omega arith) (omega arith)) (omega arith) in
            ap (λ z. linked ns m (suc z)) (sym p) ∙ link_start m

    -- the fold over all numbers is the scan
    fold-reached : (ks : List ℕ) (m r : ℕ) → Every (λ k. k ≤ length ns) ks → m ≤ length ns → reached ns m ks ≡ some r
        → (foldl add_node (take m us) ks ≡ take r us) × (r ≤ length ns)
    unfolding reached
    fold-reached [] m r b h e = let q : m ≡ r = cc in (ap (λ z. take z us) q, omega arith)
    fold-reached (k ∷ ks) m r b h e = go (leb k m) refl (linked ns m k) refl e (λ z i e. fold-reached ks z r (λ y n. b y (Memᴰ.tail n)) i e)
      where
        go : (a : Bool) → leb k m ≡ a → (c : Bool) → linked ns m k ≡ c → cond a (reached ns m ks) (cond c (reached ns k ks) none) ≡ some r
            → ((z : ℕ) → z ≤ length ns → reached ns z ks ≡ some r → (foldl add_node (take z us) ks ≡ take r us) × (r ≤ length ns))
            → (foldl add_node (add_node (take m us) k) ks ≡ take r us) × (r ≤ length ns)
        go true p c q e rest = rw (old-node m k (leb-true k m p) h) (rest m h e)
        go false p true q e rest = rw (new-nodes m k (leb-false k m p) (b k (Memᴰ.head refl)) q) (rest k (b k (Memᴰ.head refl)) e)
        go false p false q e rest = let z : ◌≡◌ {A = ℕ} 0 1 = cc in absurd (omega arith)

    reached-fold : (ks : List ℕ) (m : ℕ) → Every (λ k. k ≤ length ns) ks → m ≤ length ns → Extends (foldl add_node (take m us) ks) us
        → (r : ℕ) × (reached ns m ks ≡ some r)
    unfolding reached
    reached-fold [] m b h x = (m, refl)
    reached-fold (k ∷ ks) m b h x = go (leb k m) refl (λ z i y. reached-fold ks z (λ y n. b y (Memᴰ.tail n)) i y)
      where
        fold-extends : (seen : List Urn) (ks : List ℕ) → Extends seen (foldl add_node seen ks)
        fold-extends seen [] = extends-self seen
        fold-extends seen (k ∷ ks) = extends-trans (urn-extends-add seen (urn_of us k)) (fold-extends (add_node seen k) ks)

        go : (a : Bool) → leb k m ≡ a → ((z : ℕ) → z ≤ length ns → Extends (foldl add_node (take z us) ks) us → (r : ℕ) × (reached ns z ks ≡ some r))
            → (r : ℕ) × (cond (leb k m) (reached ns m ks) (cond (linked ns m k) (reached ns k ks) none) ≡ some r)
        go true p rest =
            let w = rest m h (subst (λ (z : List Urn). Extends (foldl add_node z ks) us) (old-node m k (leb-true k m p) h) x) in
            (w.0, rw p w.1)
        go false p rest =
            let i = leb-false k m p in
            let n = b k (Memᴰ.head refl) in
            let q = links-by (suc k) m k (omega arith) i n (extends-trans (fold-extends (add_node (take m us) k) ks) x) in
            let w = rest k n (subst (λ (z : List Urn). Extends (foldl add_node z ks) us) (new-nodes m k i n q) x) in
            (w.0, rw (p, q) w.1)

  -- no node is repeated exactly if no URN is
  no-path : (k : ℕ) → k ≤ length ns → (urn_of us k).path ≡ [] → k ≡ 0
  no-path zero h e = refl
  no-path (suc i) h e =
      let f = facts i (omega arith) in
      let l = ap length (sym f.path ∙ e) in
      absurd (omega (arith, l, length-append (urn_of us (node_of ns i).parent).path ((node_of ns i).last ∷ [])))

  same-is : (a b : Node) → same_node a b ≡ true → (a.category ≡ b.category) × (a.parent ≡ b.parent) × (a.last ≡ b.last)
  same-is a b e =
      let p = (and-eq-true_iff (eqb a.category b.category) (eqb a.parent b.parent && same_name a.last b.last)).0 e in
      let q = (and-eq-true_iff (eqb a.parent b.parent) (same_name a.last b.last)).0 p.1 in
      (eqb-true a.category b.category p.0, eqb-true a.parent b.parent q.0, name-exact.to a.last b.last q.1)

  is_same : (a b : Node) → a.category ≡ b.category → a.parent ≡ b.parent → a.last ≡ b.last → same_node a b ≡ true
  is_same a b p q r = ap₂ ◌&&◌ (eq-eqb _ _ p) (ap₂ ◌&&◌ (eq-eqb _ _ q) (ap (λ (z : Name). same_name z b.last) r ∙ name-exact.self b.last))

  -- two nodes alike have one URN
  same-urn : (i j : ℕ) → i < length ns → j < length ns → same_node (node_of ns i) (node_of ns j) ≡ true → node_at us i ≡ node_at us j
  same-urn i j h k e =
      let s = same-is (node_of ns i) (node_of ns j) e in
      let f = facts i h in
      let g = facts j k in
      let p : (node_at us i).path ≡ (node_at us j).path =
      f.path ∙ ap₂ (λ (z : ℕ) (x : Name). (urn_of us z).path ++ x ∷ []) s.1 s.2 ∙ sym g.path in
      ap₂ urn (f.cat ∙ s.0 ∙ sym g.cat) p

  -- and nodes with one URN are one, if no two are alike
  one-urn : ((i j : ℕ) → i < length ns → j < length ns → same_node (node_of ns i) (node_of ns j) ≡ true → i ≡ j)
      → (b i j : ℕ) → i < b → i < length ns → j < length ns → node_at us i ≡ node_at us j → i ≡ j
  one-urn u zero i j l h k e = absurd (omega arith)
  one-urn u (suc b) i j l h k e =
      let f = facts i h in
      let g = facts j k in
      let p : (urn_of us (node_of ns i).parent).path ++ (node_of ns i).last ∷ [] ≡ (urn_of us (node_of ns j).parent).path ++ (node_of ns j).last
      ∷ [] = sym f.path ∙ ap (λ (z : Urn). z.path) e ∙ g.path in
      let q = snoc-injective _ _ _ _ p in
      let r : (node_of ns i).last ≡ (node_of ns j).last = sym (last_snoc (urn_of us (node_of ns i).parent).path (node_of ns i).last)
      ∙ ap last_name p ∙ last_snoc (urn_of us (node_of ns j).parent).path (node_of ns j).last in
      let c : (node_of ns i).category ≡ (node_of ns j).category = sym f.cat ∙ ap (λ (z : Urn). z.cat) e ∙ g.cat in
      u i j h k (is_same (node_of ns i) (node_of ns j) c (parents (node_of ns i).parent (node_of ns j).parent q c f.low g.low f.same
      g.same (λ a x y z w. one-urn u b a x y z w)) r)
    where
      parents : (a z : ℕ) → (urn_of us a).path ≡ (urn_of us z).path → (node_of ns i).category ≡ (node_of ns j).category → a ≤ i → z ≤ j
          → (a ≡ 0) ⊎ ((urn_of us a).cat ≡ (node_of ns i).category) → (z ≡ 0) ⊎ ((urn_of us z).cat ≡ (node_of ns j).category)
          → ((x y : ℕ) → x < b → x < length ns → y < length ns → node_at us x ≡ node_at us y → x ≡ y) → a ≡ z
      parents zero z q c lo hi s t ih = sym (no-path z (omega arith) (sym q))
      parents (suc x) zero q c lo hi s t ih = no-path (suc x) (omega arith) q
      parents (suc x) (suc y) q c lo hi (inl s) t ih = absurd (omega arith)
      parents (suc x) (suc y) q c lo hi (inr s) (inl t) ih = absurd (omega arith)
      parents (suc x) (suc y) q c lo hi (inr s) (inr t) ih = ap suc (ih x y (omega arith) (omega arith) (omega arith) (ap₂ urn (s ∙ c ∙ sym t) q))

distinct_of : (us : List Urn) → ((i j : ℕ) → i < length us → j < length us → node_at us i ≡ node_at us j → i ≡ j) → Distinct same_urn us
distinct_of [] h = tt
distinct_of (u ∷ us) h = (go (member u us) refl, distinct_of us (λ i j a b e. let z = h (suc i) (suc j) (omega arith) (omega arith) e in omega arith))
  where
    go : (b : Bool) → member u us ≡ b → b ≡ false
    go false e = refl
    go true e =
        let w = index-member same_urn urn-exact (urn 0 []) u us e in
        absurd (omega (arith, h 0 (suc (index_by same_urn u us)) (omega arith) (omega (arith, w.0)) (sym w.1)))

joined-map : {A B : Type 0} (g : A → B) (ss : List (List A)) → joined (map (map g) ss) ≡ map g (joined ss)
unfolding joined
joined-map g [] = refl
joined-map g (s ∷ ss) = ap (λ z. map g s ++ z) (joined-map g ss) ∙ sym (map-append g s (joined ss))

count-is : (n : ℕ) (o : Option ℕ) → is_count n o ≡ true → o ≡ some n
count-is n none e = absurd (false≢true e)
count-is n (some m) e = ap some (eqb-true m n e)

-- where every parent and every number is right, the nodes are in order exactly if the scan says so
module _ (x : Tree) (p : all_under [] x.nodes ≡ true) (b : every (every (within 1 (length x.nodes))) x.signals ≡ true) where
  abbrev ns : List Node
  ns = x.nodes

  abbrev us : List Urn
  us = urns_of x

  abbrev ks : List ℕ
  ks = joined x.signals

  size : length us ≡ length ns
  size = omega (arith, after-length [] x.nodes)

  facts : (i : ℕ) → i < length ns → Placed us (node_of ns i) i
  facts i h = subst (λ (j : ℕ). Placed us (node_of ns i) j) (zero-add i) (placed-after [] ns p i h)

  bounds : Every (λ k. k ≤ length ns) ks
  bounds k m =
      let e = all-mem (within 1 (length ns)) ks k (sym (all-joined (within 1 (length ns)) x.signals) ∙ b) m in
      leb-true k (length ns) ((and-eq-true_iff (leb 1 k) (leb k (length ns))).0 e).1

  as-fold : nodes (table_of_tree x) ≡ foldl (add_node ns us size facts) [] ks
  as-fold = nodes-joined (table_of_tree x) ∙ ap (foldl add_urn []) (joined-map (urn_of us) x.signals) ∙ foldl-map (urn_of us) add_urn ks []

  order-scanned : in_order x ≡ true → scanned x ≡ true
  unfolding in_order scanned
  order-scanned e =
      let o : us ≡ nodes (table_of_tree x) = (list-exact urn-exact).to us (nodes (table_of_tree x)) e in
      let d : Distinct same_urn us = rw o (nodes-ordered (table_of_tree x)).distinct in
      let f : foldl (add_node ns us size facts) [] ks ≡ us = sym as-fold ∙ sym o in
      let r = reached-fold ns us size facts d ks 0 bounds (omega arith) (rw f (extends-self us)) in
      let w = fold-reached ns us size facts d ks 0 r.0 bounds (omega arith) r.1 in
      let l : r.0 ≡ length ns = omega (arith, ap length (sym f ∙ w.0), length-take-le r.0 us (omega (arith, w.1, size)), size) in
      ap₂ ◌&&◌ (no-two-of same_node ns (record { category = 0; parent = 0; last = [] }) (apart d)) (ap (is_count (length ns)) r.1
      ∙ eq-eqb r.0 (length ns) l)
    where
      apart : Distinct same_urn us → (i j : ℕ) → i < j → j < length ns → same_node (node_of ns i) (node_of ns j) ≡ false
      apart d i j h k =
          by_test (same_node (node_of ns i) (node_of ns j))
          (λ q.
          let v = same-urn ns us size facts i j (omega arith) k q in
          let z : i ≡ j = sym (index_at same_urn urn-exact (urn 0 []) us d i (omega (arith, size))) ∙ ap (λ (u : Urn). index_by same_urn u us)
          v ∙ index_at same_urn urn-exact (urn 0 []) us d j (omega (arith, size)) in
          absurd (omega arith))
          (λ q. q)

  scanned-order : scanned x ≡ true → in_order x ≡ true
  unfolding in_order scanned
  scanned-order e =
      let a = (and-eq-true_iff (no_two same_node ns) (is_count (length ns) (reached ns 0 ks))).0 e in
      let d : Distinct same_urn us =
      distinct_of us (λ i j h k v. one-urn ns us size facts (once a.0) (suc i) i j (omega arith) (omega (arith, size)) (omega (arith, size)) v) in
      let w = fold-reached ns us size facts d ks 0 (length ns) bounds (omega arith) (count-is (length ns) (reached ns 0 ks) a.1) in
      let o : nodes (table_of_tree x) ≡ us = as-fold ∙ w.0 ∙ take_all (length ns) us (omega (arith, size)) in
      ap (same_list same_urn us) o ∙ (list-exact urn-exact).self us
    where
      once : no_two same_node ns ≡ true → (i j : ℕ) → i < length ns → j < length ns → same_node (node_of ns i) (node_of ns j) ≡ true → i ≡ j
      once t i j h k q = go (dec_lt i j) (dec_lt j i)
        where
          none_of : Node
          none_of = record { category = 0; parent = 0; last = [] }

          turned : same_node (node_of ns j) (node_of ns i) ≡ true
          turned = let s = same-is ns us size facts (node_of ns i) (node_of ns j) q in
              is_same ns us size facts (node_of ns j) (node_of ns i) (sym s.0) (sym s.1) (sym s.2)

          go : Dec (i < j) → Dec (j < i) → i ≡ j
          go (yes a) c = absurd (true≢false (sym q ∙ two_at same_node ns none_of t i j a k))
          go (no a) (yes c) = absurd (true≢false (sym turned ∙ two_at same_node ns none_of t j i c h))
          go (no a) (no c) = omega arith

  pub scan-is : in_order x ≡ scanned x
  scan-is = same_test (in_order x) (scanned x) order-scanned scanned-order

-- 21
numbers-known : (x : Tree) → numbered x ≡ true → every (every (within 1 (length x.nodes))) x.signals ≡ true
unfolding numbered
numbers-known x n = ((and-eq-true_iff (every (λ n. ltb n.category (length x.names)) x.nodes)
    (every (every (within 1 (length x.nodes))) x.signals)).0 n).1

pub grown-scanned : (x : Tree) → grown x ≡ (numbered x && (all_parented x.nodes && scanned x))
unfolding grown
grown-scanned x =
    by_test (numbered x)
    (λ n. by_test (all_parented x.nodes) (λ p. rw (n, p) (scan-is x (under-is x.nodes ∙ p) (numbers-known x n))) (λ p. rw (n, p)))
    (λ n. rw n)
