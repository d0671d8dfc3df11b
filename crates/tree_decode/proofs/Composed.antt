-- The refusal of a tree, test by test: what the functions answer of its arrays is the tree's.
use Prim.Native.Nat.{ℕ, suc, ◌+◌, ◌-◌, ◌≤◌, ◌<◌}
use mathlib.Core.Path.{◌≡◌, refl, ap, ap₂, sym, ◌∙◌}
use mathlib.Core.Bool.{Bool, true, false, cond, ◌&&◌, and-eq-true_iff}
use mathlib.Core.List.{List, [], map}
use native.Mathlib.Omega.{arith}
use lib.ListN.{length, get_or}
use lib.Dec.{eqb, leb, ltb}
use borrow.Author.Tests.{ltb-true, leb-true}
use Rattle.base_numbers.specs.Numbers.{most_signals}
use Rattle.base_lists.specs.Cuts.{stretch}
use Rattle.base_lists.proofs.Tests.{all-joined, any-alike, all_alike, all-mem}
use Rattle.base_lists.specs.Tests.{all, any, no_two}
use Rattle.base_lists.specs.Numbers.{within}
use Rattle.base_lists.proofs.Tabulated.{tabulate-at, tabulate-length, map-tab}
use Rattle.base_lists.proofs.Lists.{mem-at}
use Rattle.base_lists.specs.Lists.{tabulate, joined}
use Rattle.theory_resolution.specs.Names.{Name, Parts, same_name}
use Rattle.theory_resolution.specs.Table.{Table}
use Rattle.theory_resolution.specs.Nodes.{node_at}
use Rattle.urn_names.specs.Urn.{stored_name}
use Rattle.table_sections.specs.Stored.{fault}
use Rattle.table_sections.specs.Held.{Padded}
use Rattle.table_places.specs.Slots.{Listing, Numbering, Placed}
use Rattle.table_places.proofs.Flat.{what_of, tagged-what}
use Rattle.tree_sections.specs.Tree.{Node, node_of, Tree, tree_sections}
use Rattle.tree_sections.specs.Held.{node_from, number_at, tree_held, TreeHeld}
use Rattle.tree_sections.specs.declared.Counts.{Counts}
use Rattle.tree_forms.specs.Meaning.{urn_of, urns_of, table_of_tree, urn_text}
use Rattle.tree_forms.specs.Refusals.{named, grown, tree_judged_read, tree_refusal, tree_judged}
use Rattle.tree_forms.proofs.Writing.{FitsTree, tree-back}
use Rattle.tree_forms.proofs.Growing.{Grown, grown-is}
use Rattle.tree_forms.proofs.Theorems.{tree-refusal}
use Rattle.tree_nodes.specs.Tests.{Judges}
use Rattle.tree_nodes.proofs.ByArrays.{node_at_lem}
use Rattle.tree_decode.specs.Direct.{short_in, few_parts, used_once, meant, tree_direct}
use Rattle.tree_decode.specs.Stages.{Parented, Sizes, Depths, Nodes, UrnCategories, GrownAs, FitAs}
use Rattle.tree_decode.proofs.Directly.{tree-direct}
use Rattle.tree_decode.proofs.Measures.{facts, depth_is, size_is, short-by, few-by, used-by, tree-listing, tree-numbering}

-- 4 to 6
pub at-fault : (t : List ℕ) (k : ℕ) → tree_sections t ≡ fault k → k ≡ tree_refusal t
unfolding tree_refusal tree_judged_read
at-fault t k e = sym (ap tree_judged_read e)

-- the numbers of all signals
pub numbers-are : (t name_at name_len category parent at len signal number : List ℕ) (r : Counts)
    (H : TreeHeld t name_at name_len category parent at len signal number r)
    → tabulate (λ i. get_or number i 0) r.numbers ≡ joined H.signals
numbers-are t name_at name_len category parent at len signal number r H =
    sym (map-tab what_of (number_at signal number) r.numbers) ∙ ap (map what_of) H.held.numbers ∙ tagged-what 0 H.signals

-- after 7 and 21
module _ (t name_at name_len category parent at len signal number : List ℕ) (r : Counts) (G : GrownAs t name_at name_len category parent at len
    signal number r) where
  abbrev x : Tree
  x = tree_held t name_at name_len category parent at len G.read.signals r

  abbrev T : Table
  T = table_of_tree x

  pub fits : FitsTree x
  fits = (tree-back t x G.read.next G.read.whole).0

  pub grew : Grown x
  grew = grown-is x G.grows

  pub refusal-meant : tree_refusal t ≡ meant x.names T
  unfolding tree_direct
  refusal-meant =
      tree-refusal t x G.read.next G.read.short G.read.whole ∙ tree-direct x ∙ rw (G.names, G.grows)

  pub count : length x.nodes ≡ r.nodes
  count = tabulate-length (node_from t category parent at len) r.nodes

  pub node-is : (i : ℕ) → i < r.nodes → node_of x.nodes i ≡ node_from t category parent at len i
  node-is i h = node_at_lem t category parent at len r.nodes i h

  pub known : (i : ℕ) → i < r.nodes → get_or category i 0 < r.categories
  known i h =
      let l : i < length x.nodes = omega (arith, count) in
      let w = ltb-true (node_of x.nodes i).category (length x.names)
      (all-mem (λ n. ltb n.category (length x.names)) x.nodes (node_of x.nodes i) grew.categories
      (mem-at x.nodes i (record { category = 0; parent = 0; last = [] }) l)) in
      omega (arith, w, ap (λ (n : Node). n.category) (node-is i h), tabulate-length (stretch t name_at name_len) r.categories)

  pub parented : Parented parent category r.nodes
  parented =
      record {
        low = λ i h. omega (arith, (facts x grew i (omega (arith, count))).low, ap (λ (n : Node). n.parent) (node-is i h));
        few = λ i h. omega (arith, known i h, G.read.few-categories);
      }

  pub numbered-in : (i : ℕ) → i < r.numbers → (1 ≤ get_or number i 0) × (get_or number i 0 ≤ r.nodes)
  numbered-in i k =
      let f : ℕ → ℕ = λ i. get_or number i 0 in
      let v = tabulate-at f r.numbers i 0 k in
      let l = tabulate-length f r.numbers in
      let w = all-mem (within 1 (length x.nodes)) (tabulate f r.numbers) (get_or (tabulate f r.numbers) i 0)
      (ap (all (within 1 (length x.nodes))) (numbers-are t name_at name_len category parent at len signal number r G.read)
      ∙ sym (all-joined (within 1 (length x.nodes)) x.signals) ∙ grew.numbers)
      (mem-at (tabulate f r.numbers) i 0 (omega (arith, l))) in
      let b = (and-eq-true_iff (leb 1 (get_or (tabulate f r.numbers) i 0)) (leb (get_or (tabulate f r.numbers) i 0) (length x.nodes))).0 w in (
        omega (arith, leb-true 1 (get_or (tabulate f r.numbers) i 0) b.0, v),
        omega (arith, leb-true (get_or (tabulate f r.numbers) i 0) (length x.nodes) b.1, v, count),
      )

  pub nodes-all : Nodes number r.numbers
  nodes-all i h = let w = numbered-in i h in (w.0, omega (arith, w.1, G.read.few-nodes))

  -- the bytes of each node's URN, and its parts
  pub sizes-right : (out : List ℕ)
      → Sizes t name_at name_len category parent at len r.nodes out
      → (i : ℕ) → i < length x.nodes → get_or out i 0 ≡ length (urn_text x.names (node_at (urns_of x) i))
  sizes-right out F =
      size_is x grew (λ i. get_or out i 0)
      (λ i h.
      let k : i < r.nodes = omega (arith, count) in
      F i k
      ∙ ap (λ (w : Name). cond (eqb (get_or parent i 0) 0) (length w) (get_or out (get_or parent i 0 - 1) 0) + suc (length (stretch t at len i)))
      (sym (tabulate-at (stretch t name_at name_len) r.categories (get_or category i 0) [] (known i k)))
      ∙ ap (λ (n : Node). cond (eqb n.parent 0) (length (get_or x.names n.category [])) (get_or out (n.parent - 1) 0) + suc
      (length n.last)) (sym (node-is i k)))

  pub depths-right : (out : List ℕ) → Depths parent r.nodes out → (i : ℕ) → i < length x.nodes → get_or out i 0 ≡ length (node_at (urns_of x) i).path
  depths-right out F =
      depth_is x grew (λ i. get_or out i 0)
      (λ i h.
      let k : i < r.nodes = omega (arith, count) in
      F i k ∙ ap (λ (n : Node). cond (eqb n.parent 0) 0 (get_or out (n.parent - 1) 0) + 1) (sym (node-is i k)))

  abbrev numbers : List ℕ
  numbers = tabulate (λ i. get_or number i 0) r.numbers

  these : numbers ≡ joined x.signals
  these = numbers-are t name_at name_len category parent at len signal number r G.read

  module _ (size : List ℕ) (F : Sizes t name_at name_len category parent at len r.nodes size) {a : Bool}
      (e : a ≡ all (λ k. leb (get_or size (k - 1) 0) 255) numbers) where
    shorts : short_in x.names T ≡ a
    shorts = short-by x grew (λ i. get_or size i 0) (sizes-right size F) ∙ ap (all (λ k. leb (get_or size (k - 1) 0) 255)) (sym these) ∙ sym e

    pub is-six : a ≡ false → 6 ≡ tree_refusal t
    unfolding meant
    is-six z = sym (refusal-meant ∙ rw (shorts ∙ z))

    module _ (p : a ≡ true) (depth : List ℕ) (D : Depths parent r.nodes depth) {b : Bool} (f : b ≡ all (λ k. leb (get_or depth (k - 1) 0) 8) numbers) where
      fews : few_parts T ≡ b
      fews = few-by x grew (λ i. get_or depth i 0) (depths-right depth D) ∙ ap (all (λ k. leb (get_or depth (k - 1) 0) 8)) (sym these) ∙ sym f

      pub is-seven : b ≡ false → 7 ≡ tree_refusal t
      unfolding meant
      is-seven z = sym (refusal-meant ∙ rw (shorts ∙ p, fews ∙ z))

      pub fit-as : b ≡ true → FitAs t name_at name_len category parent at len signal number r
      fit-as z = record { grows = G; shorts = shorts ∙ p; fews = fews ∙ z }

-- after 6 and 7
module _ (t name_at name_len category parent at len signal number : List ℕ) (r : Counts) (F : FitAs t name_at name_len category parent at len signal number r) where
  abbrev G : GrownAs t name_at name_len category parent at len signal number r
  G = F.grows

  abbrev z : Tree
  z = tree_held t name_at name_len category parent at len G.read.signals r

  meant-of : tree_refusal t ≡ meant z.names (table_of_tree z)
  meant-of = refusal-meant t name_at name_len category parent at len signal number r G

  those : tabulate (λ i. get_or number i 0) r.numbers ≡ joined z.signals
  those = numbers-are t name_at name_len category parent at len signal number r G.read

  module _ {c : Bool} (g : c ≡ no_two same_name (tabulate (stretch t name_at name_len) r.categories)) where
    pub listed-twice : c ≡ false → 8 ≡ tree_refusal t
    unfolding meant used_once
    listed-twice w = sym (meant-of ∙ rw (F.shorts, F.fews, sym g ∙ w))

    module _ (y : c ≡ true) (out : List ℕ) (U : UrnCategories number category out r.numbers) {d : Bool}
        (u : d ≡ all (λ c. any (λ x. eqb x c) (tabulate (λ j. get_or out j 0) r.numbers)) (tabulate (λ c. c) r.categories)) where
      cat-is : (i : ℕ) → i < r.numbers → get_or out i 0 ≡ (node_of z.nodes (get_or number i 0 - 1)).category
      cat-is i h =
          let w = numbered-in t name_at name_len category parent at len signal number r G i h in
          U i h ∙ ap (λ (n : Node). n.category)
          (sym (node-is t name_at name_len category parent at len signal number r G (get_or number i 0 - 1) (omega (arith, w.0, w.1))))

      used : used_once z.names (table_of_tree z) ≡ d
      used =
          used-by z (grew t name_at name_len category parent at len signal number r G)
          ∙ ap₂ (λ (a b : Bool). a && b) (sym g ∙ y)
          (ap (λ n. all (λ c. any (λ k. eqb (node_of z.nodes (k - 1)).category c) (joined z.signals)) (tabulate (λ c. c) n))
          (tabulate-length (stretch t name_at name_len) r.categories)
          ∙ all_alike (λ c. any (λ k. eqb (node_of z.nodes (k - 1)).category c) (joined z.signals))
          (λ c. any (λ x. eqb x c) (tabulate (λ j. get_or out j 0) r.numbers)) (λ c. c) (λ c. c) r.categories
          (λ c h. ap (any (λ k. eqb (node_of z.nodes (k - 1)).category c)) (sym those)
          ∙ any-alike (λ k. eqb (node_of z.nodes (k - 1)).category c) (λ x. eqb x c) (λ i. get_or number i 0) (λ j. get_or out j 0)
          r.numbers (λ i k. ap (λ z. eqb z c) (sym (cat-is i k)))))
          ∙ sym u

      pub not-used : d ≡ false → 8 ≡ tree_refusal t
      unfolding meant
      not-used w = sym (meant-of ∙ rw (F.shorts, F.fews, used ∙ w))

      pub by-places : d ≡ true → (v : ℕ) (rows rows₁ : List ℕ) → Padded most_signals 0 rows
          → ((T : Table) (path : ℕ → Parts) → Listing T signal out path r.signals r.numbers
          → Numbering T out path number r.numbers → Padded most_signals 0 rows → Placed T rows₁ r.signals v)
          → v ≡ tree_refusal t
      unfolding meant
      by-places w v rows rows₁ p f =
          let g = grew t name_at name_len category parent at len signal number r G in
          let h = fits t name_at name_len category parent at len signal number r G in
          let l = tree-listing z g h signal out number r.numbers G.read.held.numbers cat-is r.signals
          G.read.held.all-signals G.read.held.few-signals G.read.held.few-numbers in
          let n = tree-numbering z g h signal out number r.numbers G.read.held.numbers cat-is in
          (f (table_of_tree z) (λ i. (urn_of (urns_of z) (get_or number i 0)).path) l n p).refusal ∙ sym (meant-of ∙ rw (F.shorts, F.fews, used ∙ w))

-- 7 and 21
module _ (t name_at name_len category parent at len signal number : List ℕ) (r : Counts)
    (H : TreeHeld t name_at name_len category parent at len signal number r) where
  abbrev y : Tree
  y = tree_held t name_at name_len category parent at len H.signals r

  judged-tree : tree_refusal t ≡ tree_judged y
  judged-tree = tree-refusal t y H.next H.short H.whole

  module _ {a : Bool} (e : a ≡ all stored_name (tabulate (stretch t name_at name_len) r.categories)) where
    named-no : a ≡ false → named y ≡ false
    unfolding named
    named-no z = rw (sym e ∙ z)

    pub name-unformed : a ≡ false → 7 ≡ tree_refusal t
    unfolding tree_judged
    name-unformed z = sym (judged-tree ∙ rw (named-no z))

    module _ (p : a ≡ true) {b : Bool} (f : b ≡ all stored_name (tabulate (stretch t at len) r.nodes)) where
      named-so : named y ≡ b
      unfolding named
      named-so = ap₂ ◌&&◌ (sym e ∙ p) (all_alike (λ n. stored_name n.last) stored_name (node_from t category parent at len)
          (stretch t at len) r.nodes (λ i h. refl) ∙ sym f)

      pub last-unformed : b ≡ false → 7 ≡ tree_refusal t
      unfolding tree_judged
      last-unformed z = sym (judged-tree ∙ rw (named-so ∙ z))

      module _ (q : b ≡ true) {c : Bool} (g : Judges t category parent at len number r.categories r.nodes r.numbers c) where
        grown-so : grown y ≡ c
        grown-so =
            sym (g y.names H.signals (tabulate-length (stretch t name_at name_len) r.categories) H.few-nodes H.held.few-numbers
            (numbers-are t name_at name_len category parent at len signal number r H))

        pub not-grown : c ≡ false → 21 ≡ tree_refusal t
        unfolding tree_judged
        not-grown z = sym (judged-tree ∙ rw (named-so ∙ q, grown-so ∙ z))

        pub grown-as : c ≡ true → GrownAs t name_at name_len category parent at len signal number r
        grown-as z = record { read = H; names = named-so ∙ q; grows = grown-so ∙ z }
