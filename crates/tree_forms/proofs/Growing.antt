-- Laws of nodes written once: the tree of a table says that table, and a tree that is grown is the tree of the table that it says.
use Prim.Native.Nat.{ℕ, zero, suc, ◌+◌, ◌-◌, ◌≤◌, ◌<◌}
use mathlib.Core.Path.{◌≡◌, refl, ap, ap₂, sym, ◌∙◌, subst}
use mathlib.Core.Logic.{◌⊎◌, inl, inr, ◌≢◌}
use mathlib.Core.Bool.{Bool, true, false, ◌&&◌, ◌||◌, and-eq-true_iff}
use mathlib.Core.List.{List, [], ◌∷◌, ◌++◌, map, map-append, append_assoc, append-nil, Memᴰ}
use native.Mathlib.Omega.{arith}
use native.Mathlib.Decide.{ℕ_discrete}
use lib.ListN.{length, get_or, take, drop, length-append, length-drop, get_or-append}
use lib.Seq.{drop-cons, take-append_seam, get_or-append_seam}
use lib.Dec.{eqb, leb, ltb}
use borrow.Author.Tests.{eq-eqb, ne_eqb, eqb-true, leb-true, le-leb}
use Rattle.base_lists.proofs.Numbers.{within-is}
use Rattle.base_lists.proofs.Tests.{all-mem}
use Rattle.base_lists.specs.Tests.{all}
use Rattle.base_lists.specs.Numbers.{within}
use Rattle.base_lists.proofs.Lists.{Extends, extends-self, extends-trans, at-extends, mem-at, list-exact, member_of, member-extends, index-member}
use Rattle.base_lists.proofs.Lists.{index-take, index_at}
use Rattle.base_lists.proofs.Below.{all-to, all_of}
use Rattle.base_lists.proofs.Bools.{same_test, by_test}
use Rattle.base_lists.specs.Lists.{same_list, index_by, Distinct, all_below as forall}
use Rattle.theory_resolution.specs.Names.{Name, Parts}
use Rattle.theory_resolution.specs.Table.{Urn, urn, Table}
use Rattle.theory_resolution.specs.Nodes.{same_urn, member, nodes, is_node, number, node_at}
use Rattle.theory_resolution.proofs.Names.{snoc-view}
use Rattle.theory_resolution.proofs.Nodes.{urn-exact, root-free, nodes-all, urn-node}
use Rattle.theory_resolution.proofs.Numbers.{Parents, nodes-ordered, number-node}
use Rattle.table_nodes.specs.Nodes.{Numbered}
use Rattle.tree_sections.specs.Tree.{Node, node_of, Tree}
use Rattle.tree_forms.specs.Meaning.{urn_of, node_urn, urns_after, urns_of, table_of_tree, front, last_name, node_in, number_in, tree_in}
use Rattle.tree_forms.specs.Refusals.{numbered, parented, all_parented, in_order, grown}
use Rattle.tree_forms.proofs.Writing.{Every}
use Rattle.tree_forms.proofs.Texts.{maps-same}

-- a path with one more part
module _ (p : Parts) (x : Name) where
  one_more : length (p ++ x ∷ []) - 1 ≡ length p
  one_more = omega (arith, length-append p (x ∷ []))

  pub front-snoc : front (p ++ x ∷ []) ≡ p
  front-snoc = ap (λ n. take n (p ++ x ∷ [])) one_more ∙ take-append_seam p (x ∷ [])

  pub last_snoc : last_name (p ++ x ∷ []) ≡ x
  last_snoc = ap (λ n. get_or (p ++ x ∷ []) n []) one_more ∙ get_or-append_seam p x [] []

-- a parent is 0, or a node of the same category before it, the earlier nodes' URNs being us
unfoldable pub under : List Urn → Node → Bool
under us n = eqb n.parent 0 || (leb n.parent (length us) && eqb (urn_of us n.parent).cat n.category)

-- so is every node's after them
unfoldable pub all_under : List Urn → List Node → Bool
all_under us [] = true
all_under us (n ∷ ns) = under us n && all_under (us ++ node_urn us n ∷ []) ns

-- no node of the list is a root
abbrev Rootless : List Urn → Type 0
Rootless us = (c : ℕ) → is_node us c [] ≡ false

root-zero : (us : List Urn) (c : ℕ) → Rootless us → number us c [] ≡ 0
root-zero us c f = rw (f c)

-- the number of a path that is the root, or a node among the first
first-numbered : (ns a : List Urn) → Extends a ns → Rootless ns → (c : ℕ) (p : Parts) → (p ≡ []) ⊎ (member (urn c p) a ≡ true) → Numbered a c p (number ns c p)
first-numbered ns a x f c p (inl e) = inl (ap (number ns c) e ∙ root-zero ns c f, e)
first-numbered ns a x f c p (inr m) =
    let k : member (urn c p) ns ≡ true = member-extends same_urn urn-exact (urn c p) x m in
    let t : take (length a) ns ≡ a = ap (take (length a)) (sym x.joined) ∙ take-append_seam a x.more in
    let h = index-take same_urn urn-exact (urn c p) ns (length a) (rw t m) in
    let j = index_by same_urn (urn c p) ns in
    inr (j, rw k, h, sym (at-extends (urn 0 []) x j h) ∙ (index-member same_urn urn-exact (urn 0 []) (urn c p) ns k).1)

path-numbered : (a : List Urn) (c : ℕ) (p : Parts) (k : ℕ) → Numbered a c p k → (urn_of a k).path ≡ p
path-numbered a c p k (inl e) = ap (λ i. (urn_of a i).path) e.0 ∙ sym e.1
path-numbered a c p k (inr w) = ap (λ i. (urn_of a i).path) w.1 ∙ ap (λ (u : Urn). u.path) w.3

pub suc-zero : (j : ℕ) → eqb (suc j) 0 ≡ false
suc-zero j = ne_eqb (suc j) 0 (λ q. omega arith)

parent-numbered : (a : List Urn) (c : ℕ) (p : Parts) (k : ℕ) (x : Name) → Numbered a c p k → under a (record { category = c; parent = k; last = x }) ≡ true
unfolding under
parent-numbered a c p k x (inl e) = rw e.0
parent-numbered a c p k x (inr w) =
    rw (w.1, suc-zero w.0, le-leb (suc w.0) (length a) w.2, eq-eqb (node_at a w.0).cat c (ap (λ (u : Urn). u.cat) w.3))

-- the two ways to ask for right parents are one
module _ (ns : List Node) where
  -- the URNs have the categories of the first nodes, and the rest comes after these
  pub record Begun (a : List Urn) (rest : List Node) : Type 0 where
    pub cats : (j : ℕ) → j < length a → (node_at a j).cat ≡ (node_of ns j).category
    pub after : drop (length a) ns ≡ rest

  module _ (a : List Urn) (n : Node) (rest : List Node) (b : Begun a (n ∷ rest)) where
    here : length a < length ns
    here = omega (arith, length-drop (length a) ns, ap length b.after)

    split : node_of ns (length a) ∷ drop (suc (length a)) ns ≡ n ∷ rest
    split = sym (drop-cons ns (length a) (record { category = 0; parent = 0; last = [] }) here) ∙ b.after

    is-node : node_of ns (length a) ≡ n
    is-node = let e = split in cc

    is-rest : drop (suc (length a)) ns ≡ rest
    is-rest = let e = split in cc

    begun_more : Begun (a ++ node_urn a n ∷ []) rest
    begun_more = record { cats = cats; after = ap (λ k. drop k ns) long ∙ is-rest }
      where
        long : length (a ++ node_urn a n ∷ []) ≡ suc (length a)
        long = omega (arith, length-append a (node_urn a n ∷ []))

        cats : (j : ℕ) → j < length (a ++ node_urn a n ∷ []) → (node_at (a ++ node_urn a n ∷ []) j).cat ≡ (node_of ns j).category
        cats j h = go (ℕ_discrete j (length a))
          where
            go : Dec (j ≡ length a) → (node_at (a ++ node_urn a n ∷ []) j).cat ≡ (node_of ns j).category
            go (yes e) =
                ap (λ i. (node_at (a ++ node_urn a n ∷ []) i).cat) e ∙ ap (λ (u : Urn). u.cat) (get_or-append_seam a (node_urn a n) [] (urn 0 []))
                ∙ ap (λ (m : Node). m.category) (sym is-node) ∙ ap (λ i. (node_of ns i).category) (sym e)
            go (no e) =
                let k : j < length a = omega (arith, long) in
                ap (λ (u : Urn). u.cat) (get_or-append a (node_urn a n ∷ []) (urn 0 []) j k) ∙ b.cats j k

    under-parented : under a n ≡ parented ns (length a)
    unfolding under parented
    under-parented = rw is-node (go n.parent)
      where
        go : (k : ℕ) → eqb k 0 || (leb k (length a) && eqb (urn_of a k).cat n.category)
            ≡ eqb k 0 || (leb k (length a) && eqb (node_of ns (k - 1)).category n.category)
        go zero = refl
        go (suc j) =
            let o : suc j - 1 ≡ j = omega arith in
            by_test (leb (suc j) (length a))
            (λ h. rw (suc-zero j, h, o) (ap (λ c. eqb c n.category) (b.cats j (leb-true (suc j) (length a) h))))
            (λ h. rw (suc-zero j, h))

  under_all : (a : List Urn) (rest : List Node) → Begun a rest → all_under a rest ≡ true → (i : ℕ) → length a ≤ i → i < length ns → parented ns i ≡ true
  unfolding all_under
  under_all a [] b e i h k = absurd (omega (arith, length-drop (length a) ns, ap length b.after))
  under_all a (n ∷ rest) b e i h k =
      let p = (and-eq-true_iff (under a n) (all_under (a ++ node_urn a n ∷ []) rest)).0 e in
      go (ℕ_discrete i (length a)) p.0 (λ l. under_all (a ++ node_urn a n ∷ []) rest (begun_more a n rest b) p.1 i l k)
    where
      go : Dec (i ≡ length a) → under a n ≡ true → (length (a ++ node_urn a n ∷ []) ≤ i → parented ns i ≡ true) → parented ns i ≡ true
      go (yes q) u ih = ap (parented ns) q ∙ sym (under-parented a n rest b) ∙ u
      go (no q) u ih = ih (omega (arith, length-append a (node_urn a n ∷ [])))

  all_under_lem : (a : List Urn) (rest : List Node) → Begun a rest → ((i : ℕ) → i < length ns → parented ns i ≡ true) → all_under a rest ≡ true
  unfolding all_under
  all_under_lem a [] b f = refl
  all_under_lem a (n ∷ rest) b f =
      ap₂ ◌&&◌ (under-parented a n rest b ∙ f (length a) (here a n rest b)) (all_under_lem (a ++ node_urn a n ∷ []) rest (begun_more a n rest b) f)

  pub under-is : all_under [] ns ≡ all_parented ns
  unfolding all_parented
  under-is =
      same_test (all_under [] ns) (forall (length ns) (parented ns))
      (λ e. all_of (length ns) (parented ns) (λ i h. under_all [] ns start e i (omega arith) h))
      (λ e. all_under_lem [] ns start (all-to (length ns) (parented ns) e))
    where
      start : Begun [] ns
      start = record { cats = λ j h. absurd (omega arith); after = refl }

-- the nodes l of a table, those before them being a, written and read again
grow : (ns a l : List Urn) → a ++ l ≡ ns → Rootless ns → Parents a l → Every (λ u. u.path ≢ []) l
    → (urns_after a (map (node_in ns) l) ≡ ns) × (all_under a (map (node_in ns) l) ≡ true)
unfolding urns_after all_under
grow ns a [] e f ps s = (sym (append-nil a) ∙ e, refl)
grow ns a (u ∷ l) e f ps s =
    by (snoc-view u.path) (grow ns (a ++ u ∷ []) l (append_assoc a (u ∷ []) l ∙ e) f ps.1 (λ v m. s v (Memᴰ.tail m)))
  where
    by : (u.path ≡ []) ⊎ ((p : Parts) × (x : Name) × (u.path ≡ p ++ x ∷ []))
        → (urns_after (a ++ u ∷ []) (map (node_in ns) l) ≡ ns) × (all_under (a ++ u ∷ []) (map (node_in ns) l) ≡ true)
        → (urns_after (a ++ node_urn a (node_in ns u) ∷ []) (map (node_in ns) l) ≡ ns)
        × (under a (node_in ns u) && all_under (a ++ node_urn a (node_in ns u) ∷ []) (map (node_in ns) l) ≡ true)
    by (inl z) ih = absurd (s u (Memᴰ.head refl) z)
    by (inr w) ih =
        let p = w.0 in
        let x = w.1 in
        let q : front u.path ≡ p = ap front w.2 ∙ front-snoc p x in
        let y : last_name u.path ≡ x = ap last_name w.2 ∙ last_snoc p x in
        let k : ℕ = number ns u.cat (front u.path) in
        let n : Numbered a u.cat p k = rw q (first-numbered ns a (record { more = u ∷ l; joined = e }) f u.cat p (ps.0 p x w.2)) in
        let r : (urn_of a k).path ++ last_name u.path ∷ [] ≡ u.path =
        ap₂ (λ (b : Parts) (z : Name). b ++ z ∷ []) (path-numbered a u.cat p k n) y ∙ sym w.2 in
        let v : node_urn a (node_in ns u) ≡ u = ap (urn u.cat) r in (
          ap (λ (z : Urn). urns_after (a ++ z ∷ []) (map (node_in ns) l)) v ∙ ih.0,
          ap₂ ◌&&◌ (parent-numbered a u.cat p k (last_name u.path) n) (ap (λ (z : Urn). all_under (a ++ z ∷ []) (map (node_in ns) l)) v ∙ ih.1),
        )

module _ (names : List Name) (T : Table) where
  grown-nodes : (urns_after [] (map (node_in (nodes T)) (nodes T)) ≡ nodes T) × (all_under [] (map (node_in (nodes T)) (nodes T)) ≡ true)
  grown-nodes = grow (nodes T) [] (nodes T) refl (root-free T) (nodes-ordered T).parents (λ u m. (nodes-all T u m).some-part)

  -- the tree of a table has the table's nodes
  pub urns-again : urns_of (tree_in names T) ≡ nodes T
  unfolding tree_in
  urns-again = grown-nodes.0

  pub parents-again : all_under [] (tree_in names T).nodes ≡ true
  unfolding tree_in
  parents-again = grown-nodes.1

  -- and says it
  pub says-again : T.cats ≡ length names → Every (Every (λ u. u.path ≢ [])) T.signals → table_of_tree (tree_in names T) ≡ T
  unfolding tree_in
  says-again n s =
      let f : (u : Urn) (sig : List Urn) → Memᴰ sig T.signals → Memᴰ u sig → urn_of (nodes T) (number_in (nodes T) u) ≡ u =
      λ u sig m i. let w = number-node (nodes T) u.cat u.path (urn-node T sig u m i (s sig m u i)) in ap (urn_of (nodes T)) w.2 ∙ w.3 in
      let k : map (map (urn_of (urns_of (tree_in names T)))) (map (map (number_in (nodes T))) T.signals) ≡ T.signals =
      ap (λ (us : List Urn). map (map (urn_of us)) (map (map (number_in (nodes T))) T.signals)) grown-nodes.0
      ∙ maps-same (urn_of (nodes T)) (number_in (nodes T)) T.signals (λ sig m u i. f u sig m i) in
      let c : length names ≡ T.cats = sym n in
      λ i. record { cats = c i; signals = k i }

-- the nodes after others go on from them
pub after-extends : (a : List Urn) (ns : List Node) → Extends a (urns_after a ns)
unfolding urns_after
after-extends a [] = extends-self a
after-extends a (n ∷ ns) = extends-trans (record { more = node_urn a n ∷ []; joined = refl }) (after-extends (a ++ node_urn a n ∷ []) ns)

pub after-length : (a : List Urn) (ns : List Node) → length (urns_after a ns) ≡ length a + length ns
unfolding urns_after
after-length a [] = omega arith
after-length a (n ∷ ns) = omega (arith, after-length (a ++ node_urn a n ∷ []) ns, length-append a (node_urn a n ∷ []))

-- where no node stands twice, the number of the j-th is j + 1
pub number-nth : (us : List Urn) → Distinct same_urn us → (j : ℕ) → j < length us → number_in us (node_at us j) ≡ suc j
number-nth us d j h =
    rw (member_of same_urn urn-exact (node_at us j) us (mem-at us j (urn 0 []) h)) (ap suc (index_at same_urn urn-exact (urn 0 []) us d j h))

-- a node whose parent is 0 or an earlier one of its category, read and written again
module _ (us a : List Urn) (n : Node) (x : Extends a us) (d : Distinct same_urn us) (f : Rootless us) where
  parent-again : under a n ≡ true → number us n.category (urn_of a n.parent).path ≡ n.parent
  unfolding under
  parent-again e = go n.parent e
    where
      go : (k : ℕ) → eqb k 0 || (leb k (length a) && eqb (urn_of a k).cat n.category) ≡ true → number us n.category (urn_of a k).path ≡ k
      go zero e = root-zero us n.category f
      go (suc j) e =
          let b = (and-eq-true_iff (leb (suc j) (length a)) (eqb (node_at a j).cat n.category)).0 (rw (suc-zero j) at e) in
          let h : j < length a = leb-true (suc j) (length a) b.0 in
          let c : (node_at a j).cat ≡ n.category = eqb-true (node_at a j).cat n.category b.1 in
          let l : length a ≤ length us = omega (arith, length-append a x.more, ap length x.joined) in
          ap (λ i. number us i (node_at a j).path) (sym c) ∙ ap (number_in us) (sym (at-extends (urn 0 []) x j h)) ∙ number-nth us d j (omega (arith, h, l))

  node-again : under a n ≡ true → node_in us (node_urn a n) ≡ n
  node-again e =
      let p = (urn_of a n.parent).path in
      let k : number us n.category (front (p ++ n.last ∷ [])) ≡ n.parent = ap (number us n.category) (front-snoc p n.last) ∙ parent-again e in
      let l : last_name (p ++ n.last ∷ []) ≡ n.last = last_snoc p n.last in
      λ i. record { category = n.category; parent = k i; last = l i }

nodes-again : (us a : List Urn) (ns : List Node) → urns_after a ns ≡ us → Distinct same_urn us → Rootless us → all_under a ns ≡ true
    → map (node_in us) us ≡ map (node_in us) a ++ ns
unfolding urns_after all_under
nodes-again us a [] e d f p = ap (map (node_in us)) (sym e) ∙ sym (append-nil (map (node_in us) a))
nodes-again us a (n ∷ ns) e d f p =
    let b = (and-eq-true_iff (under a n) (all_under (a ++ node_urn a n ∷ []) ns)).0 p in
    let x : Extends a us = rw (← e) (after-extends a (n ∷ ns)) in
    nodes-again us (a ++ node_urn a n ∷ []) ns e d f b.1
    ∙ ap (λ z. z ++ ns) (map-append (node_in us) a (node_urn a n ∷ []))
    ∙ append_assoc (map (node_in us) a) (node_in us (node_urn a n) ∷ []) ns
    ∙ ap (λ (z : Node). map (node_in us) a ++ z ∷ ns) (node-again us a n x d f b.0)

-- what a tree that is grown passes
pub record Grown (x : Tree) : Type 0 where
  pub categories : all (λ n. ltb n.category (length x.names)) x.nodes ≡ true
  pub numbers : all (all (within 1 (length x.nodes))) x.signals ≡ true
  pub parents : all_under [] x.nodes ≡ true
  pub order : urns_of x ≡ nodes (table_of_tree x)

pub grown-is : (x : Tree) → grown x ≡ true → Grown x
unfolding grown numbered in_order
grown-is x e =
    let a = (and-eq-true_iff (numbered x) (all_parented x.nodes && in_order x)).0 e in
    let b = (and-eq-true_iff (all (λ n. ltb n.category (length x.names)) x.nodes) (all (all (within 1 (length x.nodes))) x.signals)).0 a.0 in
    let c = (and-eq-true_iff (all_parented x.nodes) (in_order x)).0 a.1 in
    record {
      categories = b.0;
      numbers = b.1;
      parents = under-is x.nodes ∙ c.0;
      order = (list-exact urn-exact).to (urns_of x) (nodes (table_of_tree x)) c.1;
    }

pub is-grown : (x : Tree) → Grown x → grown x ≡ true
unfolding grown numbered in_order
is-grown x g =
    ap₂ ◌&&◌ (ap₂ ◌&&◌ g.categories g.numbers) (ap₂ ◌&&◌ (sym (under-is x.nodes) ∙ g.parents)
    (ap (λ (us : List Urn). same_list same_urn us (nodes (table_of_tree x))) g.order ∙ (list-exact urn-exact).self (nodes (table_of_tree x))))

module _ (x : Tree) (g : Grown x) where
  -- a signal's number is that of a node
  pub signal-number : (sig : List ℕ) → Memᴰ sig x.signals → (k : ℕ) → Memᴰ k sig → (j : ℕ) × (k ≡ suc j) × (j < length (urns_of x))
  signal-number sig m k i =
      go k (within-is 1 (length x.nodes) k
      (all-mem (within 1 (length x.nodes)) sig k (all-mem (all (within 1 (length x.nodes))) x.signals sig g.numbers m) i))
    where
      go : (k : ℕ) → (1 ≤ k) × (k ≤ length x.nodes) → (j : ℕ) × (k ≡ suc j) × (j < length (urns_of x))
      go zero b = absurd (omega arith)
      go (suc j) b = (j, refl, omega (arith, b.1, after-length [] x.nodes))

  pub no-twice : Distinct same_urn (urns_of x)
  no-twice = rw g.order (nodes-ordered (table_of_tree x)).distinct

  no-root : Rootless (urns_of x)
  no-root = subst (λ (us : List Urn). Rootless us) (sym g.order) (root-free (table_of_tree x))

  -- a tree that is grown is the tree of the table that it says
  pub tree_again : tree_in x.names (table_of_tree x) ≡ x
  unfolding tree_in
  tree_again =
      let us : List Urn = urns_of x in
      let a : map (node_in us) us ≡ x.nodes = nodes-again us [] x.nodes refl no-twice no-root g.parents in
      let b : map (map (number_in us)) (map (map (urn_of us)) x.signals) ≡ x.signals =
      maps-same (number_in us) (urn_of us) x.signals
      (λ sig m k i. let w = signal-number sig m k i in ap (λ n. number_in us (urn_of us n)) w.1 ∙ number-nth us no-twice w.0 w.2 ∙ sym w.1) in
      let c : map (node_in (nodes (table_of_tree x))) (nodes (table_of_tree x)) ≡ x.nodes = ap (λ (us : List Urn). map (node_in us) us) (sym g.order) ∙ a in
      let d : map (map (number_in (nodes (table_of_tree x)))) (table_of_tree x).signals ≡ x.signals =
      ap (λ (us : List Urn). map (map (number_in us)) (table_of_tree x).signals) (sym g.order) ∙ b in
      λ i. record { names = x.names; nodes = c i; signals = d i }
