-- The tests by the arrays are those of the tree that the arrays hold.
use Prim.Native.Nat.{ℕ, suc, zero, ◌+◌, ◌-◌, ◌≤◌, ◌<◌}
use mathlib.Core.Path.{◌≡◌, refl, ap, ap₂, sym, ◌∙◌}
use mathlib.Core.Bool.{Bool, true, false, cond, ◌&&◌, ◌||◌, and-eq-true_iff, and-true}
use mathlib.Core.Option.{none}
use mathlib.Core.List.Memᴰ
use mathlib.Core.List.{List, [], ◌∷◌}
use Rattle.std.specs.Prelude.{Some, None}
use native.Mathlib.Omega.{arith}
use lib.ListN.{length, get_or}
use lib.Dec.{eqb, leb, ltb}
use borrow.Author.Tests.{le-leb, lt-leb, leb-true, leb-false}
use Rattle.base_numbers.specs.Numbers.{most_nodes, most_table_urns}
use Rattle.base_lists.specs.Cuts.{stretch}
use Rattle.base_lists.proofs.Tests.{all-mem, all-joined, all_alike, all_join}
use Rattle.base_lists.proofs.Bools.{by_test}
use Rattle.base_lists.specs.Tests.{all, no_two}
use Rattle.base_lists.specs.Numbers.{within}
use Rattle.base_lists.proofs.Tabulated.{tabulate-at, tabulate-length}
use Rattle.base_lists.specs.Lists.{tabulate, joined, all_below as forall}
use Rattle.theory_resolution.specs.Names.{Name}
use Rattle.urn_names.specs.Urn.{stored_name}
use Rattle.tree_sections.specs.Tree.{Node, node_of, Tree}
use Rattle.tree_forms.specs.Refusals.{numbered, parented, all_parented, grown}
use Rattle.tree_nodes.specs.Scan.{same_node, linked, reached, is_count, scanned}
use Rattle.tree_sections.specs.Held.{node_from}
use Rattle.tree_nodes.specs.Tests.{under_at, linked_by, step_by, after, scan_by, so_many, grown_by, lasts_formed, grown_in, Judges}
use Rattle.tree_forms.proofs.Writing.{Every}
use Rattle.tree_forms.proofs.Growing.{suc-zero}
use Rattle.tree_nodes.proofs.Scanning.{grown-scanned}

-- a test at each number below n
forall-tab : (n : ℕ) (f : ℕ → Bool) → forall n f ≡ all f (tabulate (λ i. i) n)
unfolding forall tabulate all
forall-tab zero f = refl
forall-tab (suc n) f = ap₂ ◌&&◌ (forall-tab n f) (sym (and-true (f n))) ∙ sym (all_join f (tabulate (λ i. i) n) (n ∷ []))

forall-same : (n : ℕ) (f g : ℕ → Bool) → ((i : ℕ) → i < n → f i ≡ g i) → forall n f ≡ forall n g
unfolding forall
forall-same zero f g h = refl
forall-same (suc n) f g h = ap₂ ◌&&◌ (forall-same n f g (λ i k. h i (omega arith))) (h n (omega arith))

module _ (t category parent at len : List ℕ) (n : ℕ) where
  abbrev ns : List Node
  ns = tabulate (node_from t category parent at len) n

  pub node_at_lem : (i : ℕ) → i < n → node_of ns i ≡ node_from t category parent at len i
  node_at_lem i h = tabulate-at (node_from t category parent at len) n i (record { category = 0; parent = 0; last = [] }) h

  under-parented : (i : ℕ) → i < n → under_at category parent i ≡ parented ns i
  unfolding under_at parented
  under-parented i h = rw (node_at_lem i h) (go (get_or parent i 0))
    where
      go : (p : ℕ) → eqb p 0 || (leb p i && eqb (get_or category (p - 1) 0) (get_or category i 0))
          ≡ eqb p 0 || (leb p i && eqb (node_of ns (p - 1)).category (get_or category i 0))
      go zero = refl
      go (suc j) =
          let o : suc j - 1 ≡ j = omega arith in
          by_test (leb (suc j) i)
          (λ b. let k : j < n = omega (arith, leb-true (suc j) i b) in rw (suc-zero j, b, o, node_at_lem j k))
          (λ b. rw (suc-zero j, b))

  parents-are : all (under_at category parent) (tabulate (λ i. i) n) ≡ all_parented ns
  unfolding all_parented
  parents-are =
      sym (forall-tab n (under_at category parent)) ∙ forall-same n (under_at category parent) (parented ns) under-parented
      ∙ ap (λ k. forall k (parented ns)) (sym (tabulate-length (node_from t category parent at len) n))

  linked-are : (m k : ℕ) → m < k → k ≤ n → linked ns m k ≡ linked_by parent m k
  unfolding linked linked_by
  linked-are m k h l =
      let d : k - m - 1 ≡ k - suc m = omega arith in
      forall-same (k - suc m) (λ i. eqb (node_of ns (suc m + i)).parent (suc m + i)) (λ i. eqb (get_or parent (m + 1 + i) 0) (m + 1 + i))
      (λ i j.
      let o : suc m + i ≡ m + 1 + i = omega arith in
      ap (λ (x : Node). eqb x.parent (suc m + i)) (node_at_lem (suc m + i) (omega arith)) ∙ ap (λ z. eqb (get_or parent z 0) z) o)
      ∙ forall-tab (k - suc m) (λ i. eqb (get_or parent (m + 1 + i) 0) (m + 1 + i))
      ∙ all_alike (λ i. eqb (get_or parent (m + 1 + i) 0) (m + 1 + i)) (λ i. eqb (get_or parent i 0) i) (λ i. i) (λ j. m + 1 + j) (k - suc m) (λ i j. refl)
      ∙ ap (λ z. all (λ i. eqb (get_or parent i 0) i) (tabulate (λ j. m + 1 + j) z)) (sym d)

  scan-are : (ks : List ℕ) (m : ℕ) → Every (λ k. k ≤ n) ks → m ≤ n → so_many n (scan_by parent m ks) ≡ is_count n (reached ns m ks)
  unfolding step_by scan_by reached
  scan-are [] m b l = refl
  scan-are (k ∷ ks) m b l =
      go (leb k m) refl (linked_by parent m k) refl (λ z i. scan-are ks z (λ y m. b y (Memᴰ.tail m)) i)
    where
      go : (a : Bool) → leb k m ≡ a → (c : Bool) → linked_by parent m k ≡ c
          → ((z : ℕ) → z ≤ n → so_many n (scan_by parent z ks) ≡ is_count n (reached ns z ks))
          → so_many n (after (λ r. scan_by parent r ks) (cond (leb k m) (Some m) (cond (linked_by parent m k) (Some k) None)))
          ≡ is_count n (cond (leb k m) (reached ns m ks) (cond (linked ns m k) (reached ns k ks) none))
      go true p c q ih = rw p (ih m l)
      go false p true q ih =
          let i = b k (Memᴰ.head refl) in
          rw (p, q, linked-are m k (leb-false k m p) i ∙ q) (ih k i)
      go false p false q ih =
          let i = b k (Memᴰ.head refl) in
          rw (p, q, linked-are m k (leb-false k m p) i ∙ q)

-- tests in a row, the last one known only where the second passes
in_row : (a b c d e : Bool) → (b ≡ true → d ≡ e) → (a && b) && (c && d) ≡ a && (b && (c && e))
in_row true true c d e h = ap (λ z. c && z) (h refl)
in_row true false c d e h = refl
in_row false b c d e h = refl

module _ (t category parent at len number : List ℕ) (categories nodes numbers : ℕ) (names : List Name) (ss : List (List ℕ)) (k : length names ≡ categories)
    (h : nodes ≤ most_nodes) (these : tabulate (λ i. get_or number i 0) numbers ≡ joined ss) where
  abbrev fs : ℕ → Node
  fs = node_from t category parent at len

  abbrev x : Tree
  x = record { names = names; nodes = tabulate fs nodes; signals = ss }

  count : length x.nodes ≡ nodes
  count = tabulate-length fs nodes

  numbered_is : numbered x ≡ (all (λ y. ltb y categories) (tabulate (λ i. get_or category i 0) nodes)
      && all (within 1 nodes) (tabulate (λ i. get_or number i 0) numbers))
  unfolding numbered
  numbered_is =
      ap₂ ◌&&◌
      (all_alike (λ n. ltb n.category (length names)) (λ y. ltb y categories) fs (λ i. get_or category i 0) nodes (λ i _. ap (ltb (get_or category i 0)) k))
      (ap (λ n. all (all (within 1 n)) ss) count ∙ all-joined (within 1 nodes) ss ∙ ap (all (within 1 nodes)) (sym these))

  scanned-is : all (within 1 nodes) (tabulate (λ i. get_or number i 0) numbers) ≡ true
      → scanned x ≡ (no_two same_node (tabulate fs nodes) && so_many nodes (scan_by parent 0 (tabulate (λ i. get_or number i 0) numbers)))
  unfolding scanned
  scanned-is e =
      ap (λ b. no_two same_node (tabulate fs nodes) && b)
      (ap (λ n. is_count n (reached x.nodes 0 (joined ss))) count ∙ ap (λ ks. is_count nodes (reached x.nodes 0 ks)) (sym these)
      ∙ sym (scan-are t category parent at len nodes (tabulate (λ i. get_or number i 0) numbers) 0
      (λ k m. leb-true k nodes ((and-eq-true_iff (leb 1 k) (leb k nodes)).0
      (all-mem (within 1 nodes) (tabulate (λ i. get_or number i 0) numbers) k e m)).1) (omega arith)))

  -- 21
  pub grown-by : grown x ≡ grown_by t category parent at len number categories nodes numbers
  unfolding grown_by
  grown-by =
      grown-scanned x ∙ ap₂ (λ (a b : Bool). a && (b && scanned x)) numbered_is (sym (parents-are t category parent at len nodes))
      ∙ in_row (all (λ y. ltb y categories) (tabulate (λ i. get_or category i 0) nodes)) (all (within 1 nodes) (tabulate (λ i. get_or number i 0) numbers))
      (all (under_at category parent) (tabulate (λ i. i) nodes)) (scanned x) _ scanned-is

-- within the arrays' lengths the tests are those of the tree, and past them they fail
module _ (t category parent at len number : List ℕ) (categories nodes numbers : ℕ) where
  pub judges-in : {r : Bool} → r ≡ grown_in t category parent at len number categories nodes numbers
      → Judges t category parent at len number categories nodes numbers r
  unfolding grown_in
  judges-in e names ss k h l these =
      e ∙ simp (
        le-leb nodes most_nodes h,
        le-leb numbers most_table_urns l,
      ) (sym (grown-by t category parent at len number categories nodes numbers names ss k h these))

-- the same of the last names
module _ (t at len : List ℕ) (n : ℕ) where
  pub lasts-over : most_nodes < n → leb n most_nodes ≡ lasts_formed t at len n
  unfolding lasts_formed
  lasts-over h = lt-leb n most_nodes h ∙ sym (simp (lt-leb n most_nodes h))

  pub lasts-within : {b : Bool} → n ≤ most_nodes → b ≡ all stored_name (tabulate (stretch t at len) n) → b ≡ lasts_formed t at len n
  unfolding lasts_formed
  lasts-within h e = e ∙ sym (simp (le-leb n most_nodes h))

  pub lasts-in : {r : Bool} → r ≡ lasts_formed t at len n → n ≤ most_nodes → r ≡ all stored_name (tabulate (stretch t at len) n)
  unfolding lasts_formed
  lasts-in e h = e ∙ simp (le-leb n most_nodes h)
