-- Laws of the marks of nodes: which have nodes under them, and how many bytes a path shares with the one before it.
use Prim.Native.Nat.{ℕ, suc, ◌+◌, ◌-◌, ◌≤◌, ◌<◌, min}
use mathlib.Core.Path.{◌≡◌, ap, ap₂, sym, ◌∙◌}
use mathlib.Core.Bool.{Bool, false, cond, not}
use mathlib.Core.List.{List}
use native.Mathlib.Omega.{arith}
use native.Mathlib.Decide.{ℕ_discrete}
use native.Mathlib.Numerals.{add-one}
use native.Mathlib.Nat.{zero-add}
use lib.Dec.{ltb}
use lib.ListN.{length, get_or, set}
use lib.Seq.{get_or-set_same, get_or-set_other, ext_get_or}
use borrow.Author.Tests.{eq-eqb, lt-ltb, ltb-true, ltb-false}
use Rattle.base_numbers.specs.Numbers.{most_nodes}
use Rattle.base_lists.specs.Cuts.{stretch}
use Rattle.base_lists.proofs.Bools.{by_test}
use Rattle.base_lists.proofs.Tabulated.{tabulate-length, tabulate-at}
use Rattle.base_lists.specs.Lists.{tabulate}
use Rattle.base_text.specs.Text.{common}
use Rattle.node_search.specs.Arrays.{last_path, shared_of, SharedIn, childless, inner_of}

-- the last node of a category, found
module _ (t ca pos len : List ℕ) (c n i : ℕ) (v : last_path t ca pos len c n ≡ last_path t ca pos len c i) where
  pub before-found : {p : List ℕ} → 0 < i → get_or ca (i - 1) 0 ≡ c → p ≡ stretch t pos len (i - 1) → p ≡ last_path t ca pos len c n
  unfolding last_path
  before-found h e f =
      let m : i ≡ suc (i - 1) = omega arith in
      f ∙ sym (v ∙ ap (last_path t ca pos len c) m ∙ rw (eq-eqb (get_or ca (i - 1) 0) c e))

-- one node's shared bytes more
abbrev shared_by : List ℕ → List ℕ → List ℕ → List ℕ → ℕ → ℕ
shared_by t ca pos len j = common (last_path t ca pos len (get_or ca j 0) j) (stretch t pos len j)

pub shared-more : (t ca pos len sh : List ℕ) (i : ℕ) {x y : List ℕ} {k r : ℕ} → SharedIn t ca pos len sh i → i < length sh
    → x ≡ last_path t ca pos len (get_or ca i 0) i → y ≡ stretch t pos len i → k ≡ 0 + common x y → r ≡ k → SharedIn t ca pos len (set sh i r) (i + 1)
shared-more t ca pos len sh i {x} {y} {k} {r} v h e f g d s l = go (ℕ_discrete s i)
  where
    go : Dec (s ≡ i) → get_or (set sh i r) s 0 ≡ shared_by t ca pos len s
    go (yes q) =
        ap (λ j. get_or (set sh i r) j 0) q ∙ get_or-set_same sh i r 0 h ∙ d ∙ g ∙ zero-add (common x y) ∙ ap₂ common e f ∙ ap (shared_by t ca pos len) (sym q)
    go (no q) = get_or-set_other sh i s r 0 q ∙ v s (omega arith)

-- as many nodes
pub shared_of_lem : (t ca pos len sh : List ℕ) {n m : ℕ} → n ≡ m → SharedIn t ca pos len sh n → SharedIn t ca pos len sh m
shared_of_lem t ca pos len sh e v i h = v i (omega arith)

-- both arrays whole
module _ (t ca pos len : List ℕ) where
  pub shares-all : (sh : List ℕ) {n m : ℕ} → n ≡ m → length sh ≡ most_nodes → SharedIn t ca pos len sh n → ((k : ℕ) → n ≤ k → get_or sh k 0 ≡ 0)
      → sh ≡ tabulate (shared_of t ca pos len m) most_nodes
  unfolding shared_of
  shares-all sh {n} {m} e l v z =
      ext_get_or 0 sh (tabulate (shared_of t ca pos len m) most_nodes) (l ∙ sym (tabulate-length (shared_of t ca pos len m) most_nodes))
      (λ i h. by_test (ltb i m)
      (λ b. v i (omega (arith, ltb-true i m b)) ∙ sym (tabulate-at (shared_of t ca pos len m) most_nodes i 0 (omega arith)
      ∙ ap (λ b. cond b (shared_by t ca pos len i) 0) b))
      (λ b. z i (omega (arith, ltb-false i m b)) ∙ sym (tabulate-at (shared_of t ca pos len m) most_nodes i 0 (omega arith)
      ∙ ap (λ b. cond b (shared_by t ca pos len i) 0) b)))

  -- and what they say of each node
  pub shared-in : {sh : List ℕ} (nodes : ℕ) → sh ≡ tabulate (shared_of t ca pos len (min nodes most_nodes)) most_nodes
      → SharedIn t ca pos len sh (min nodes most_nodes)
  unfolding shared_of
  shared-in nodes e i l =
      ap (λ s. get_or s i 0) e ∙ tabulate-at (shared_of t ca pos len (min nodes most_nodes)) most_nodes i 0 (omega arith)
      ∙ ap (λ b. cond b (shared_by t ca pos len i) 0) (lt-ltb i (min nodes most_nodes) l)

pub marks-all : (ps : List ℕ) (inner : List Bool) {n m : ℕ} → n ≡ m → length inner ≡ most_nodes
    → ((k : ℕ) → k < most_nodes → get_or inner k false ≡ not (childless ps (k + 1) n))
    → inner ≡ tabulate (inner_of ps m) most_nodes
unfolding inner_of
marks-all ps inner {n} {m} e l v =
    ext_get_or false inner (tabulate (inner_of ps m) most_nodes) (l ∙ sym (tabulate-length (inner_of ps m) most_nodes))
    (λ k h. v k (omega arith) ∙ ap (λ j. not (childless ps j n)) (add-one k) ∙ ap (λ j. not (childless ps (suc k) j)) e
    ∙ sym (tabulate-at (inner_of ps m) most_nodes k false (omega arith)))

pub inner-in : (ps : List ℕ) {inner : List Bool} (n : ℕ) → inner ≡ tabulate (inner_of ps n) most_nodes → (k : ℕ) → k < most_nodes → get_or inner k false
    ≡ not (childless ps (k + 1) n)
unfolding inner_of
inner-in ps n e k h = ap (λ s. get_or s k false) e ∙ tabulate-at (inner_of ps n) most_nodes k false h ∙ ap (λ j. not (childless ps j n)) (sym (add-one k))
