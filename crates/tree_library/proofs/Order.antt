-- The order of a tree's numbers.
use Prim.Native.Nat.{ℕ, ◌≤◌, ◌<◌}
use mathlib.Core.Path.{◌≡◌, refl, ap, sym, ◌∙◌}
use mathlib.Core.Logic.{◌⊎◌, inl, inr, ◌↔◌, ◌≢◌}
use mathlib.Core.Bool.{Bool, true, false, cond, ◌&&◌, and-eq-true_iff, true≢false}
use mathlib.Core.List.Memᴰ
use mathlib.Core.List.{List, [], ◌∷◌, Memᴰ}
use native.Mathlib.Decide.{dec_lt}
use native.Mathlib.Omega.{arith}
use lib.ListN.{length, get_or}
use lib.Dec.{eqb, leb}
use borrow.Author.Tests.{eq-eqb, eqb-true, leb-true, leb-false, lt-ltb, le-ltb}
use Rattle.base_numbers.specs.Numbers.{most_table_bytes, most_urn_bytes}
use Rattle.base_lists.proofs.Tests.{all-mem, all-not, two-not}
use Rattle.base_lists.proofs.Bools.{by_test, unless}
use Rattle.base_lists.specs.Tests.{all, any, no_two}
use Rattle.base_lists.proofs.Tabulated.{tabulate-at, tabulate-length}
use Rattle.base_lists.proofs.Lists.{mem-at}
use Rattle.base_lists.specs.Lists.{tabulate}
use Rattle.theory_resolution.specs.Names.{Name, same_name}
use Rattle.theory_resolution.specs.Table.{Urn, Table}
use Rattle.theory_resolution.proofs.Names.{name-exact}
use Rattle.urn_names.specs.Urn.{stored_name}
use Rattle.table_sections.specs.Stored.{Read, fault, got}
use Rattle.table_places.specs.Verdict.{single, zero_silent, distinct, few_nodes, verdict}
use Rattle.table_decode.proofs.Accepting.{any-mem, two_at}
use Rattle.tree_sections.specs.Tree.{Node, Tree, tree, tree_sections}
use Rattle.tree_forms.specs.Meaning.{table_of_tree, urn_text}
use Rattle.tree_forms.specs.Refusals.{named, grown, tree_judged, tree_judged_read, tree_refusal}
use Rattle.tree_forms.proofs.Theorems.{fault-tree}
use Rattle.tree_nodes.specs.Ungrown.{Ungrown}
use Rattle.tree_nodes.proofs.Reasons.{ungrown-exactly}
use Rattle.tree_decode.specs.Direct.{short_in, few_parts, used_by, used_once, meant, tree_direct}
use Rattle.tree_decode.proofs.Directly.{tree-direct}
use Rattle.tree_library.specs.Order.{NameIn, UrnIn, BadName, LongPath, DeepPath, BadCategory, Ordered, OrderClaim, Exactly21}

-- a test says what it says in words: it fails exactly if P
pub record Fails (b : Bool) (P : Type 0) : Type 0 where
  pub to : b ≡ false → P
  pub from : P → b ≡ false

module _ {b : Bool} {P : Type 0} (f : Fails b P) where
  passes : (P → ⊥) → b ≡ true
  passes n = by_test b (λ e. e) (λ e. absurd (n (f.to e)))

  -- the number k where the test fails, and else x, which is another
  exactly : (k x : ℕ) {n : ℕ} → x ≢ k → n ≡ cond b x k → (n ≡ k) ↔ P
  exactly k x d e = (
    λ q. by_test b (λ t. absurd (d (sym (e ∙ ap (λ (z : Bool). cond z x k) t) ∙ q))) f.to,
    λ p. e ∙ ap (λ (z : Bool). cond z x k) (f.from p),
  )

  given : (k x : ℕ) {n : ℕ} → n ≡ cond b x k → P → n ≡ k
  given k x e p = e ∙ ap (λ (z : Bool). cond z x k) (f.from p)

  else_is : (k x : ℕ) {n : ℕ} → n ≡ cond b x k → (P → ⊥) → n ≡ x
  else_is k x e n = e ∙ ap (λ (z : Bool). cond z x k) (passes n)

fails_by : {b : Bool} {P : Type 0} → (b ≡ false → P) → (b ≡ true → P → ⊥) → Fails b P
fails_by {b} f g = record { to = f; from = λ p. by_test b (λ e. absurd (g e p)) (λ e. e) }

-- two numbers that are told apart
apart : (j k : ℕ) → eqb j k ≡ false → j ≢ k
apart j k e q = true≢false (sym (eq-eqb j k q) ∙ e)

-- 9 to 12 are none of the numbers before them, nor 21
verdict-not : (T : Table) (n : ℕ) → 0 ≢ n → 9 ≢ n → 10 ≢ n → 11 ≢ n → 12 ≢ n → verdict T ≢ n
unfolding verdict
verdict-not T n z a b c d =
    unless (single T) n _ 9 (unless (zero_silent T) n _ 10 (unless (distinct T) n _ 11 (unless (few_nodes T) n 0 12 z d) c) b) a

module _ (x : Tree) where
  abbrev T : Table
  T = table_of_tree x

  abbrev last : Node → Bool
  last n = stored_name n.last

  no_node : Node
  no_node = record { category = 0; parent = 0; last = [] }

  bad-name : Fails (named x) (BadName x)
  unfolding named
  bad-name = fails_by to from
    where
      to : all stored_name x.names && all last x.nodes ≡ false → BadName x
      to e =
          by_test (all stored_name x.names)
          (λ t. let w = all-not last x.nodes no_node (rw t at e) in
          ((get_or x.nodes w.0 no_node).last, inr (get_or x.nodes w.0 no_node, mem-at x.nodes w.0 no_node w.1, refl), w.2))
          (λ t. let w = all-not stored_name x.names [] t in (get_or x.names w.0 [], inl (mem-at x.names w.0 [] w.1), w.2))

      from : all stored_name x.names && all last x.nodes ≡ true → BadName x → ⊥
      from e w =
          let b = (and-eq-true_iff (all stored_name x.names) (all last x.nodes)).0 e in
          go b.0 b.1 w.0 w.1 w.2
        where
          go : all stored_name x.names ≡ true → all last x.nodes ≡ true → (y : Name) → NameIn x y → stored_name y ≡ false → ⊥
          go p q y (inl m) f = true≢false (sym (all-mem stored_name x.names y p m) ∙ f)
          go p q y (inr n) f = true≢false (sym (all-mem last x.nodes n.0 q n.1) ∙ ap stored_name n.2 ∙ f)

  -- a test of every URN
  some-urn : (p : Urn → Bool) (P : Urn → Type 0) → ((u : Urn) → p u ≡ false → P u) → ((u : Urn) → p u ≡ true → P u → ⊥)
      → Fails (all (all p) T.signals) ((u : Urn) × UrnIn x u × P u)
  some-urn p P f g = fails_by to from
    where
      to : all (all p) T.signals ≡ false → (u : Urn) × UrnIn x u × P u
      to e =
          let w = all-not (all p) T.signals [] e in
          let sig : List Urn = get_or T.signals w.0 [] in
          let v = all-not p sig (record { cat = 0; path = [] }) w.2 in
          let u : Urn = get_or sig v.0 (record { cat = 0; path = [] }) in
          (u, (sig, mem-at T.signals w.0 [] w.1, mem-at sig v.0 (record { cat = 0; path = [] }) v.1), f u v.2)

      from : all (all p) T.signals ≡ true → (u : Urn) × UrnIn x u × P u → ⊥
      from e w = g w.0 (all-mem p w.1.0 w.0 (all-mem (all p) T.signals w.1.0 e w.1.1) w.1.2) w.2

  long_path : Fails (short_in x.names T) (LongPath x)
  unfolding short_in
  long_path =
      some-urn (λ u. leb (length (urn_text x.names u)) 255) (λ u. most_urn_bytes < length (urn_text x.names u))
      (λ u e. leb-false (length (urn_text x.names u)) 255 e)
      (λ u e h. omega (arith, leb-true (length (urn_text x.names u)) 255 e))

  deep-path : Fails (few_parts T) (DeepPath x)
  unfolding few_parts
  deep-path =
      some-urn (λ u. leb (length u.path) 8) (λ u. 8 < length u.path) (λ u e. leb-false (length u.path) 8 e)
      (λ u e h. omega (arith, leb-true (length u.path) 8 e))

  -- some signal has a URN of category c
  used-by : (c : ℕ) → used_by T c ≡ true → (u : Urn) × UrnIn x u × (u.cat ≡ c)
  used-by c e =
      let a = any-mem (any (λ u. eqb u.cat c)) T.signals e in
      let b = any-mem (λ u. eqb u.cat c) a.0 a.2 in
      (b.0, (a.0, a.1, b.1), eqb-true b.0.cat c b.2)

  any_of : {A : Type 0} (p : A → Bool) (xs : List A) (y : A) → Memᴰ y xs → p y ≡ true → any p xs ≡ true
  unfolding any
  any_of p [] y m e = absurd (Memᴰ.not-nil m)
  any_of p (z ∷ xs) y m e = go (Memᴰ.cases_cons m) (λ k. any_of p xs y k e)
    where
      go : (y ≡ z) ⊎ Memᴰ y xs → (Memᴰ y xs → any p xs ≡ true) → cond (p z) true (any p xs) ≡ true
      go (inl q) ih = ap (λ (b : Bool). cond b true (any p xs)) (ap p (sym q) ∙ e)
      go (inr k) ih = by_test (p z) (λ t. ap (λ (b : Bool). cond b true (any p xs)) t) (λ t. ap (λ (b : Bool). cond b true (any p xs)) t ∙ ih k)

  any-not : {A : Type 0} (p : A → Bool) (xs : List A) (y : A) → any p xs ≡ false → Memᴰ y xs → p y ≡ false
  any-not p xs y e m = by_test (p y) (λ t. absurd (true≢false (sym (any_of p xs y m t) ∙ e))) (λ t. t)

  not-used : (c : ℕ) → used_by T c ≡ false → (u : Urn) → UrnIn x u → u.cat ≢ c
  not-used c e u w q =
      true≢false (sym (eq-eqb u.cat c q) ∙ any-not (λ v. eqb v.cat c) w.0 u (any-not (any (λ v. eqb v.cat c)) T.signals w.0 e w.1) w.2)

  bad-category : Fails (used_once x.names T) (BadCategory x)
  unfolding used_once
  bad-category = fails_by to from
    where
      m : ℕ
      m = length x.names

      to : no_two same_name x.names && all (used_by T) (tabulate (λ c. c) m) ≡ false → BadCategory x
      to e =
          by_test (no_two same_name x.names)
          (λ t. let w = all-not (used_by T) (tabulate (λ c. c) m) 0 (rw t at e) in
          let h : w.0 < m = omega (arith, w.1, tabulate-length (λ c. c) m) in
          inr (w.0, h, not-used w.0 (ap (used_by T) (sym (tabulate-at (λ c. c) m w.0 0 h)) ∙ w.2)))
          (λ t. let w = two-not same_name x.names [] t in
          inl (w.0, w.1, w.2, w.3, name-exact.to (get_or x.names w.0 []) (get_or x.names w.1 []) w.4))

      from : no_two same_name x.names && all (used_by T) (tabulate (λ c. c) m) ≡ true → BadCategory x → ⊥
      from e w =
          let b = (and-eq-true_iff (no_two same_name x.names) (all (used_by T) (tabulate (λ c. c) m))).0 e in
          go b.0 b.1 w
        where
          go : no_two same_name x.names ≡ true → all (used_by T) (tabulate (λ c. c) m) ≡ true → BadCategory x → ⊥
          go p q (inl w) =
              true≢false (sym (ap (same_name (get_or x.names w.0 [])) (sym w.4) ∙ name-exact.self (get_or x.names w.0 []))
              ∙ two_at same_name x.names [] p w.0 w.1 w.2 w.3)
          go p q (inr w) =
              let l = tabulate-length (λ c. c) m in
              let v = tabulate-at (λ c. c) m w.0 0 w.1 in
              let u = used-by w.0 (ap (used_by T) (sym v) ∙ all-mem (used_by T) (tabulate (λ c. c) m)
              (get_or (tabulate (λ c. c) m) w.0 0) q (mem-at (tabulate (λ c. c) m) w.0 0 (omega (arith, l, w.1)))) in
              w.2 u.0 u.1 u.2

  un-grown : Fails (grown x) (Ungrown x)
  un-grown = record { to = (ungrown-exactly x).0; from = (ungrown-exactly x).1 }

  -- the number where a test fails is none of those after it
  abbrev by-category : ℕ
  by-category = cond (used_once x.names T) (verdict T) 8

  abbrev by-depth : ℕ
  by-depth = cond (few_parts T) by-category 7

  abbrev by_length : ℕ
  by_length = cond (short_in x.names T) by-depth 6

  category-not : (k : ℕ) → 0 ≢ k → 8 ≢ k → 9 ≢ k → 10 ≢ k → 11 ≢ k → 12 ≢ k → by-category ≢ k
  category-not k z h a b c d = unless (used_once x.names T) k (verdict T) 8 (verdict-not T k z a b c d) h

  not-6 : by-depth ≢ 6
  not-6 =
      unless (few_parts T) 6 by-category 7
      (category-not 6 (apart 0 6 refl) (apart 8 6 refl) (apart 9 6 refl) (apart 10 6 refl) (apart 11 6 refl) (apart 12 6 refl)) (apart 7 6 refl)

  not-7 : by-category ≢ 7
  not-7 = category-not 7 (apart 0 7 refl) (apart 8 7 refl) (apart 9 7 refl) (apart 10 7 refl) (apart 11 7 refl) (apart 12 7 refl)

  not-8 : verdict T ≢ 8
  not-8 = verdict-not T 8 (apart 0 8 refl) (apart 9 8 refl) (apart 10 8 refl) (apart 11 8 refl) (apart 12 8 refl)

  not-21 : by_length ≢ 21
  not-21 =
      unless (short_in x.names T) 21 by-depth 6
      (unless (few_parts T) 21 by-category 7
      (category-not 21 (apart 0 21 refl) (apart 8 21 refl) (apart 9 21 refl) (apart 10 21 refl) (apart 11 21 refl) (apart 12 21 refl)) (apart 7 21 refl))
      (apart 6 21 refl)

  module _ (n : ℕ) (e : n ≡ cond (named x) (cond (grown x) by_length 21) 7) where
    past-names : (BadName x → ⊥) → n ≡ cond (grown x) by_length 21
    past-names = else_is bad-name 7 (cond (grown x) by_length 21) e

    past-21 : (BadName x → ⊥) → (Ungrown x → ⊥) → n ≡ by_length
    past-21 a = else_is un-grown 21 by_length (past-names a)

    past-length : (BadName x → ⊥) → (Ungrown x → ⊥) → (LongPath x → ⊥) → n ≡ by-depth
    past-length a b = else_is long_path 6 by-depth (past-21 a b)

    past-depth : (BadName x → ⊥) → (Ungrown x → ⊥) → (LongPath x → ⊥) → (DeepPath x → ⊥) → n ≡ by-category
    past-depth a b c = else_is deep-path 7 by-category (past-length a b c)

    in_order : Ordered x n
    in_order = record {
      names = given bad-name 7 (cond (grown x) by_length 21) e;
      twenty-one = λ a. exactly un-grown 21 by_length not-21 (past-names a);
      long_path = λ a b. exactly long_path 6 by-depth not-6 (past-21 a b);
      deep-path = λ a b c. exactly deep-path 7 by-category not-7 (past-length a b c);
      categories = λ a b c d. exactly bad-category 8 (verdict T) not-8 (past-depth a b c d);
      signals = λ a b c d. else_is bad-category 8 (verdict T) (past-depth a b c d);
    }

  ordered : (n : ℕ) → n ≡ tree_judged x → Ordered x n
  unfolding tree_direct meant
  ordered n e = in_order n (e ∙ tree-direct x)

-- the order of a tree's numbers
pub order-claim : OrderClaim
unfolding tree_refusal tree_judged_read
order-claim t = record {
  too_long = λ h. ap tree_judged_read (long h);
  unread = λ h k e. ap tree_judged_read (short h ∙ e);
  others = λ h x p e. ordered x (tree_refusal t) (ap tree_judged_read (short h ∙ e));
}
  where
    long : most_table_bytes < length t → tree_sections t ≡ fault 4
    long h = ap (λ (b : Bool). cond b (fault 4) (tree t)) (lt-ltb most_table_bytes (length t) h)

    short : length t ≤ most_table_bytes → tree_sections t ≡ tree t
    short h = ap (λ (b : Bool). cond b (fault 4) (tree t)) (le-ltb most_table_bytes (length t) h)

-- 21 exactly
pub exactly-21 : Exactly21
exactly-21 t = (go (dec_lt most_table_bytes (length t)), λ w. (((order-claim t).others w.0 w.1 w.2 w.3).twenty-one w.4).1 w.5)
  where
    read : (r : Read Tree) → tree t ≡ r → length t ≤ most_table_bytes → tree_refusal t ≡ 21
        → (length t ≤ most_table_bytes) × (x : Tree) × (p : ℕ) × (tree t ≡ got x p) × (BadName x → ⊥) × Ungrown x
    read (fault k) e h q = absurd (omega (arith, fault-tree t k e, (order-claim t).unread h k e))
    read (got x p) e h q =
        let o = (order-claim t).others h x p e in
        let n : BadName x → ⊥ = λ b. let z = o.names b in omega (arith, z, q) in
        (h, x, p, e, n, (o.twenty-one n).0 q)

    go : Dec (most_table_bytes < length t) → tree_refusal t ≡ 21 → (length t ≤ most_table_bytes) × (x : Tree) × (p : ℕ) × (tree t ≡ got x p)
        × (BadName x → ⊥) × Ungrown x
    go (yes h) q = absurd (omega (arith, (order-claim t).too_long h, q))
    go (no h) q = read (tree t) refl (omega arith) q
