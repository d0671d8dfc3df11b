-- Laws of the tests of 21 by the arrays, one step further.
use Prim.Native.Nat.{ℕ, ◌+◌, ◌-◌, ◌≤◌, ◌<◌, suc}
use mathlib.Core.Path.{◌≡◌, refl, ap, ap₂, sym, ◌∙◌}
use mathlib.Core.Bool.{Bool, true, false, ◌&&◌, and-eq-true_iff}
use mathlib.Core.List.{List, [], ◌∷◌}
use native.Mathlib.Omega.{arith}
use lib.ListN.{get_or, drop, drop_of_length-le}
use lib.Seq.{drop-cons}
use lib.Dec.{eqb, leb}
use lib.Pointwise.{pointwise}
use borrow.Author.Tests.{eq-eqb, ne_eqb, lt-leb, le-leb, leb-true}
use Rattle.std.specs.Prelude.{Option, Some, None}
use Rattle.std.specs.List.{list_all, range_with_len}
use Rattle.base_numbers.specs.Numbers.{most_nodes}
use Rattle.base_lists.specs.Cuts.{stretch}
use Rattle.base_lists.proofs.Tests.{all-mem}
use Rattle.base_lists.specs.Tests.{all}
use Rattle.base_lists.specs.Numbers.{within}
use Rattle.base_lists.proofs.Tabulated.{tabulate-at, tabulate-length}
use Rattle.base_lists.proofs.Lists.{mem-at}
use Rattle.base_lists.specs.Lists.{tabulate}
use Rattle.theory_resolution.specs.Names.{same_name}
use Rattle.tree_nodes.specs.Scan.{same_node}
use Rattle.tree_sections.specs.Held.{node_from}
use Rattle.tree_nodes.specs.Tests.{under_at, linked_by, step_by, after, scan_by}
use Rattle.tree_nodes.proofs.Ranges.{all-range}

-- a parent
module _ (category parent : List ℕ) (i : ℕ) {p : ℕ} (e : p ≡ get_or parent i 0) where
  pub under-zero : p ≡ 0 → eqb p 0 ≡ under_at category parent i
  unfolding under_at
  under-zero z = eq-eqb p 0 z ∙ sym (rw (← e, eq-eqb p 0 z))

  pub under-late : (p ≡ 0 → ⊥) → i < p → leb p i ≡ under_at category parent i
  unfolding under_at
  under-late n h = lt-leb p i h ∙ sym (rw (← e, ne_eqb p 0 n, lt-leb p i h))

  pub under_same : (p ≡ 0 → ⊥) → p ≤ i → eqb (get_or category (p - 1) 0) (get_or category i 0) ≡ under_at category parent i
  unfolding under_at
  under_same n h = sym (rw (← e, ne_eqb p 0 n, le-leb p i h))

-- the library's equality of texts
pub pointwise_same : (x y : List ℕ) → pointwise eqb x y ≡ same_name x y
pointwise_same [] [] = refl
pointwise_same [] (y ∷ ys) = refl
pointwise_same (x ∷ xs) [] = refl
pointwise_same (x ∷ xs) (y ∷ ys) = ap (λ b. eqb x y && b) (pointwise_same xs ys)

-- two nodes alike, as their texts are
pub by_name : (t category parent at len : List ℕ) (i j : ℕ) → get_or category i 0 ≡ get_or category j 0 → get_or parent i 0 ≡ get_or parent j 0
    → {x y : List ℕ} {b : Bool} → b ≡ pointwise eqb x y → x ≡ stretch t at len i → y ≡ stretch t at len j
    → b ≡ same_node (node_from t category parent at len i) (node_from t category parent at len j)
by_name t category parent at len i j c p {x} {y} {b} f g h =
    f ∙ pointwise_same x y
    ∙ ap₂ same_name g h
    ∙ sym (ap₂ ◌&&◌ (eq-eqb (get_or category i 0) (get_or category j 0) c)
    (ap (λ b. b && same_name (stretch t at len i) (stretch t at len j)) (eq-eqb (get_or parent i 0) (get_or parent j 0) p)))

-- linked nodes
pub linked-range : (parent : List ℕ) (m k n : ℕ) → k - (m + 1) ≡ n
    → list_all (λ i. eqb (get_or parent i 0) i) (range_with_len (m + 1) n) ≡ linked_by parent m k
unfolding linked_by
linked-range parent m k n e =
    let d : n ≡ k - m - 1 = omega arith in
    all-range _ (λ i. eqb (get_or parent i 0) i) (λ j. m + 1 + j) (m + 1) n (λ i h. refl)
    ∙ ap (λ z. all (λ i. eqb (get_or parent i 0) i) (tabulate (λ j. m + 1 + j) z)) d

-- one step of the scan
module _ (parent : List ℕ) (m k : ℕ) where
  pub step-old : k ≤ m → Some m ≡ step_by parent m k
  unfolding step_by
  step-old h = sym (rw (le-leb k m h))

  module _ (h : m < k) {b : Bool} (e : b ≡ linked_by parent m k) where
    pub step-new : b ≡ true → Some k ≡ step_by parent m k
    unfolding step_by
    step-new t = sym (rw (lt-leb k m h, sym e ∙ t))

    pub step-none : b ≡ false → None ≡ step_by parent m k
    unfolding step_by
    step-none t = sym (rw (lt-leb k m h, sym e ∙ t))

-- the scan of those of n numbers that are left
module _ (parent : List ℕ) (f : ℕ → ℕ) (n : ℕ) where
  pub scan-more : (i m : ℕ) {k : ℕ} {o : Option ℕ} → i < n → k ≡ f i → o ≡ step_by parent m k
      → scan_by parent m (drop i (tabulate f n)) ≡ after (λ r. scan_by parent r (drop (i + 1) (tabulate f n))) o
  unfolding scan_by
  scan-more i m {k} h e q =
      let s : suc i ≡ i + 1 = omega arith in
      let l = tabulate-length f n in
      let d : drop i (tabulate f n) ≡ get_or (tabulate f n) i 0 ∷ drop (suc i) (tabulate f n) = drop-cons (tabulate f n) i 0 (omega (arith, l)) in
      ap (scan_by parent m) d
      ∙ ap (λ z. after (λ r. scan_by parent r (drop (suc i) (tabulate f n))) (step_by parent m z)) (tabulate-at f n i 0 h ∙ sym e)
      ∙ ap (λ j. after (λ r. scan_by parent r (drop j (tabulate f n))) (step_by parent m k)) s
      ∙ ap (after (λ r. scan_by parent r (drop (i + 1) (tabulate f n)))) (sym q)

  pub scan-ends : (i m : ℕ) → n ≤ i → scan_by parent m (drop i (tabulate f n)) ≡ Some m
  unfolding scan_by
  scan-ends i m h = ap (scan_by parent m) (drop_of_length-le (tabulate f n) (omega (arith, tabulate-length f n)))

-- numbers that are there are at most 64
pub numbers_small : (f : ℕ → ℕ) (m n : ℕ) {b : Bool} → b ≡ all (within 1 n) (tabulate f m) → b ≡ true → n ≤ most_nodes → (i : ℕ) → i < m → f i ≤ most_nodes
numbers_small f m n e t h i k =
    let l = tabulate-length f m in
    let v = tabulate-at f m i 0 k in
    let w = all-mem (within 1 n) (tabulate f m) (get_or (tabulate f m) i 0) (sym e ∙ t) (mem-at (tabulate f m) i 0 (omega (arith, l))) in
    let u = leb-true (get_or (tabulate f m) i 0) n ((and-eq-true_iff (leb 1 (get_or (tabulate f m) i 0)) (leb (get_or (tabulate f m) i 0) n)).0 w).1 in
    omega (arith, u, v)
