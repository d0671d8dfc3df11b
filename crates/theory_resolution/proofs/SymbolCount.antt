-- There are at most two symbols for each node, where every category has a node.
use Prim.Native.Nat.{ℕ, suc, zero, ◌+◌, ◌*◌, ◌≤◌, ◌<◌}
use mathlib.Core.Path.{◌≡◌, refl, ap, sym, ◌∙◌}
use mathlib.Core.Logic.{◌⊎◌, inl, inr, ◌≢◌}
use mathlib.Core.Bool.{Bool, true, false}
use mathlib.Core.List.Memᴰ
use mathlib.Core.List.{List, [], ◌∷◌, Memᴰ}
use lib.Dec.{ltb, eqb}
use borrow.Author.Tests.{eq-eqb, ne_eqb, eqb-true, eqb-false, ltb-true, ltb-false}
use lib.ListN.{length, length-append}
use native.Mathlib.Omega.{arith}
use Rattle.base_lists.proofs.Bools.{by_test}
use Rattle.base_lists.proofs.Lists.{member-to}
use Rattle.theory_resolution.specs.Names.{Parts, proper_ancestor}
use Rattle.theory_resolution.specs.Table.{Urn, urn, Table}
use Rattle.theory_resolution.specs.Nodes.{same_urn, nodes, is_node, has_under, is_root, leaf}
use Rattle.theory_resolution.specs.Symbols.{other, node_symbols, symbols_from, symbols}
use Rattle.theory_resolution.proofs.Names.{proper-to}
use Rattle.theory_resolution.proofs.Nodes.{urn-exact, nodes-all}

abbrev one : Bool → ℕ
one true = 1
one false = 0

-- the nodes of category c, and those of the k categories from c on
abbrev count_of : ℕ → List Urn → ℕ
count_of c [] = 0
count_of c (n ∷ ns) = one (eqb n.cat c) + count_of c ns

abbrev count_from : ℕ → ℕ → List Urn → ℕ
count_from c zero ns = 0
count_from c (suc k) ns = count_of c ns + count_from (suc c) k ns

abbrev hits : ℕ → ℕ → ℕ → ℕ
hits c zero x = 0
hits c (suc k) x = one (eqb x c) + hits (suc c) k x

hits-none : (c k x : ℕ) → x < c → hits c k x ≡ 0
hits-none c zero x h = refl
hits-none c (suc k) x h = rw (ne_eqb x c (λ e. omega arith)) (omega (arith, hits-none (suc c) k x (omega arith)))

hits-one : (c k x : ℕ) → hits c k x ≤ 1
hits-one c zero x = omega arith
hits-one c (suc k) x =
    by_test (eqb x c)
    (λ e. rw e (omega (arith, hits-none (suc c) k x (omega (arith, eqb-true x c e)))))
    (λ e. rw e (omega (arith, hits-one (suc c) k x)))

count-cons : (c k : ℕ) (n : Urn) (ns : List Urn) → count_from c k (n ∷ ns) ≡ hits c k n.cat + count_from c k ns
count-cons c zero n ns = omega arith
count-cons c (suc k) n ns = omega (arith, count-cons (suc c) k n ns)

count_none : (c k : ℕ) → count_from c k [] ≡ 0
count_none c zero = refl
count_none c (suc k) = omega (arith, count_none (suc c) k)

count-le : (c k : ℕ) (ns : List Urn) → count_from c k ns ≤ length ns
count-le c k [] = omega (arith, count_none c k)
count-le c k (n ∷ ns) = omega (arith, count-cons c k n ns, hits-one c k n.cat, count-le c k ns)

-- a node has one or two symbols
module _ (ns : List Urn) (c : ℕ) where
  node-le : (l : List Urn) → length (node_symbols ns c l) ≤ count_of c l + count_of c l
  node-le [] = omega arith
  node-le (n ∷ l) =
      by_test (eqb n.cat c)
      (λ e. by_test (leaf ns c n.path)
      (λ f. rw (e, f) (omega (arith, node-le l)))
      (λ f. rw (e, f) (omega (arith, node-le l))))
      (λ e. rw e (omega (arith, node-le l)))

  node-lt : (l : List Urn) (n : Urn) → Memᴰ n l → n.cat ≡ c → leaf ns c n.path ≡ true → suc (length (node_symbols ns c l)) ≤ count_of c l + count_of c l
  node-lt [] n m e f = absurd (Memᴰ.not-nil m)
  node-lt (y ∷ l) n m e f = go (Memᴰ.cases_cons m) (λ k. node-lt l n k e f)
    where
      go : (n ≡ y) ⊎ Memᴰ n l → (Memᴰ n l → suc (length (node_symbols ns c l)) ≤ count_of c l + count_of c l)
          → suc (length (node_symbols ns c (y ∷ l))) ≤ count_of c (y ∷ l) + count_of c (y ∷ l)
      go (inl i) ih =
          let a : eqb y.cat c ≡ true = eq-eqb y.cat c (ap (λ z. z.cat) (sym i) ∙ e) in
          let b : leaf ns c y.path ≡ true = ap (λ z. leaf ns c z.path) (sym i) ∙ f in
          rw (a, b) (omega (arith, node-le l))
      go (inr k) ih =
          by_test (eqb y.cat c)
          (λ a. by_test (leaf ns c y.path) (λ b. rw (a, b) (omega (arith, ih k))) (λ b. rw (a, b) (omega (arith, ih k))))
          (λ a. rw a (omega (arith, ih k)))

-- a longest node of a category
pub record Top (c : ℕ) (l : List Urn) : Type 0 where
  pub at : Urn
  pub here : Memᴰ at l
  pub cat : at.cat ≡ c
  pub top : (m : Urn) → Memᴰ m l → m.cat ≡ c → length m.path ≤ length at.path

longest : (c : ℕ) (l : List Urn) → ((m : Urn) → Memᴰ m l → m.cat ≢ c) ⊎ Top c l
longest c [] = inl (λ m k. absurd (Memᴰ.not-nil k))
longest c (n ∷ l) = go (longest c l)
  where
    new : n.cat ≡ c → ((m : Urn) → Memᴰ m l → m.cat ≡ c → length m.path ≤ length n.path) → Top c (n ∷ l)
    new e h = record { at = n; here = Memᴰ.head refl; cat = e; top = λ m k i. cases m i (Memᴰ.cases_cons k) }
      where
        cases : (m : Urn) → m.cat ≡ c → (m ≡ n) ⊎ Memᴰ m l → length m.path ≤ length n.path
        cases m i (inl q) = omega (arith, ap (λ z. length z.path) q)
        cases m i (inr k) = h m k i

    old : (t : Top c l) → (n.cat ≡ c → length n.path ≤ length t.at.path) → Top c (n ∷ l)
    old t h = record { at = t.at; here = Memᴰ.tail t.here; cat = t.cat; top = λ m k i. cases m i (Memᴰ.cases_cons k) }
      where
        cases : (m : Urn) → m.cat ≡ c → (m ≡ n) ⊎ Memᴰ m l → length m.path ≤ length t.at.path
        cases m i (inl q) = omega (arith, ap (λ z. length z.path) q, h (ap (λ z. z.cat) (sym q) ∙ i))
        cases m i (inr k) = t.top m k i

    none : n.cat ≢ c → ((m : Urn) → Memᴰ m l → m.cat ≢ c) → (m : Urn) → (m ≡ n) ⊎ Memᴰ m l → m.cat ≢ c
    none a h m (inl q) i = a (ap (λ z. z.cat) (sym q) ∙ i)
    none a h m (inr k) i = h m k i

    go : ((m : Urn) → Memᴰ m l → m.cat ≢ c) ⊎ Top c l → ((m : Urn) → Memᴰ m (n ∷ l) → m.cat ≢ c) ⊎ Top c (n ∷ l)
    go (inl h) =
        by_test (eqb n.cat c)
        (λ e. inr (new (eqb-true n.cat c e) (λ m k i. absurd (h m k i))))
        (λ e. inl (λ m k. none (eqb-false n.cat c e) h m (Memᴰ.cases_cons k)))
    go (inr t) =
        by_test (eqb n.cat c)
        (λ e. by_test (ltb (length t.at.path) (length n.path))
        (λ f. inr (new (eqb-true n.cat c e) (λ m k i. omega (arith, t.top m k i, ltb-true (length t.at.path) (length n.path) f))))
        (λ f. inr (old t (λ i. ltb-false (length t.at.path) (length n.path) f))))
        (λ e. inr (old t (λ i. absurd (eqb-false n.cat c e i))))

under_none : (c : ℕ) (p : Parts) (l : List Urn) → ((m : Urn) → Memᴰ m l → m.cat ≡ c → length m.path ≤ length p) → has_under l c p ≡ false
under_none c p [] h = refl
under_none c p (n ∷ l) h =
    let ih = under_none c p l (λ m k. h m (Memᴰ.tail k)) in
    by_test (eqb n.cat c)
    (λ e. by_test (proper_ancestor p n.path)
    (λ f.
    let k = proper-to p n.path f in
    let z = h n (Memᴰ.head refl) (eqb-true n.cat c e) in
    absurd (omega (arith, z, ap length k.2, length-append p (k.0 ∷ k.1))))
    (λ f. rw (e, f, ih)))
    (λ e. rw (e, ih))

-- a category that has a node has a leaf
leaf-in : (t : Table) (c : ℕ) (p : Parts) → is_node (nodes t) c p ≡ true → (n : Urn) × Memᴰ n (nodes t) × (n.cat ≡ c) × (leaf (nodes t) c n.path ≡ true)
unfolding leaf
leaf-in t c p h = go (longest c (nodes t))
  where
    some-path : (u : Urn) → Memᴰ u (nodes t) → is_root u.path ≡ false
    some-path u m = from u.path (nodes-all t u m).some-part
      where
        from : (q : Parts) → q ≢ [] → is_root q ≡ false
        from [] n = absurd (n refl)
        from (x ∷ q) n = refl

    go : ((m : Urn) → Memᴰ m (nodes t) → m.cat ≢ c) ⊎ Top c (nodes t) → (n : Urn) × Memᴰ n (nodes t) × (n.cat ≡ c)
        × (leaf (nodes t) c n.path ≡ true)
    go (inl k) = absurd (k (urn c p) (member-to same_urn urn-exact (urn c p) (nodes t) h) refl)
    go (inr w) = (w.at, w.here, w.cat, rw (some-path w.at w.here, under_none c w.at.path (nodes t) w.top))

from_le : (ns : List Urn) (c k : ℕ) → ((d : ℕ) → d < c + k → (n : Urn) × Memᴰ n ns × (n.cat ≡ d) × (leaf ns d n.path ≡ true))
    → length (symbols_from ns c k) ≤ count_from c k ns + count_from c k ns
from_le ns c zero h = omega arith
from_le ns c (suc k) h =
    let w = h c (omega arith) in
    let a = node-lt ns c ns w.0 w.1 w.2 w.3 in
    let b = from_le ns (suc c) k (λ d i. h d (omega arith)) in
    omega (arith, a, b, length-append (node_symbols ns c ns) (other c [] ∷ symbols_from ns (suc c) k))

pub few-symbols : (t : Table) → ((c : ℕ) → c < t.cats → (p : Parts) × (is_node (nodes t) c p ≡ true)) → length (symbols t) ≤ 2 * length (nodes t)
few-symbols t each =
    omega (arith, from_le (nodes t) 0 t.cats (λ d h. let n = each d (omega arith) in leaf-in t d n.0 n.1), count-le 0 t.cats (nodes t))
