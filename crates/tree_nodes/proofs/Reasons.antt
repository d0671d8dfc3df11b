-- The tests of 21 fail exactly for one of the reasons in words.
use Prim.Native.Nat.{ℕ, zero, suc, ◌+◌, ◌-◌, ◌≤◌, ◌<◌}
use mathlib.Core.Path.{◌≡◌, refl, ap, sym, ◌∙◌, subst}
use mathlib.Core.Logic.{◌⊎◌, inl, inr, ◌↔◌}
use mathlib.Core.Bool.{Bool, true, false, cond, ◌&&◌, ◌||◌, and-eq-true_iff, true≢false, false≢true}
use mathlib.Core.Option.{Option, none, some}
use mathlib.Core.List.{List, [], ◌∷◌, Memᴰ}
use native.Mathlib.Decide.{dec_lt, ℕ_discrete}
use native.Mathlib.Omega.{arith}
use lib.ListN.{length, get_or, get_or-eq_default}
use lib.Dec.{eqb, leb, ltb}
use borrow.Author.Tests.{eq-eqb, eqb-true, le-leb, leb-true, leb-false, ltb-true, ltb-false}
use Rattle.base_lists.specs.Lists.{all_below as forall}
use Rattle.base_lists.proofs.Tests.{all-joined, all-mem, all-not, two-not}
use Rattle.base_lists.proofs.Bools.{by_test}
use Rattle.base_lists.specs.Tests.{all, no_two}
use Rattle.base_lists.specs.Numbers.{within}
use Rattle.base_lists.proofs.Lists.{mem-at}
use Rattle.base_lists.proofs.Below.{all-to}
use Rattle.theory_resolution.specs.Names.{same_name}
use Rattle.theory_resolution.proofs.Names.{name-exact}
use Rattle.table_decode.proofs.Accepting.{two_at}
use Rattle.tree_sections.specs.Tree.{Node, node_of, Tree}
use Rattle.tree_forms.specs.Refusals.{numbered, parented, all_parented, grown}
use Rattle.tree_forms.proofs.Growing.{suc-zero}
use Rattle.tree_nodes.specs.Scan.{same_node, linked, reached, is_count, scanned}
use Rattle.tree_nodes.specs.Ungrown.{numbers_of, RightParent, Over, itself, higher, Appears, Ungrown, no-category, no-node, no-parent, repeated}
use Rattle.tree_nodes.specs.Ungrown.{unused, out_of_order, UngrownExactly}
use Rattle.tree_nodes.proofs.Scanning.{grown-scanned}

abbrev no_node : Node
no_node = record { category = 0; parent = 0; last = [] }

forall-not : (n : ℕ) (f : ℕ → Bool) → forall n f ≡ false → (i : ℕ) × (i < n) × (f i ≡ false)
unfolding forall
forall-not zero f e = absurd (true≢false e)
forall-not (suc n) f e = by_test (forall n f) (λ h. (n, omega arith, rw h at e)) (λ h. let w = forall-not n f h in (w.0, omega (arith, w.1), w.2))

-- a parent is right, by test and in words
parent-right : (ns : List Node) (i : ℕ) → parented ns i ≡ true → RightParent ns i
unfolding parented
parent-right ns i e = go (node_of ns i).parent refl e
  where
    go : (k : ℕ) → (node_of ns i).parent ≡ k → eqb k 0 || (leb k i && eqb (node_of ns (k - 1)).category (node_of ns i).category) ≡ true → RightParent ns i
    go zero q e = inl q
    go (suc j) q e =
        let o : suc j - 1 ≡ j = omega arith in
        let b = (and-eq-true_iff (leb (suc j) i) (eqb (node_of ns (suc j - 1)).category (node_of ns i).category)).0 (rw (suc-zero j) at e) in
        inr (j, leb-true (suc j) i b.0, q, rw o at (eqb-true (node_of ns (suc j - 1)).category (node_of ns i).category b.1))

right-parent : (ns : List Node) (i : ℕ) → RightParent ns i → parented ns i ≡ true
unfolding parented
right-parent ns i r = go (node_of ns i).parent r
  where
    go : (k : ℕ) → (k ≡ 0) ⊎ ((j : ℕ) × (j < i) × (k ≡ suc j) × ((node_of ns j).category ≡ (node_of ns i).category))
        → eqb k 0 || (leb k i && eqb (node_of ns (k - 1)).category (node_of ns i).category) ≡ true
    go zero w = refl
    go (suc j) (inl z) = absurd (omega arith)
    go (suc j) (inr w) =
        let o : suc j - 1 ≡ j = omega arith in
        let s : w.0 ≡ j = omega (arith, w.2) in
        rw (
          suc-zero j,
          le-leb (suc j) i (omega (arith, w.1)),
          o,
        ) (eq-eqb (node_of ns j).category (node_of ns i).category (ap (λ k. (node_of ns k).category) (sym s) ∙ w.3))

over-view : (ns : List Node) (a b : ℕ) → Over ns a b → (a ≡ b) ⊎ ((i : ℕ) × (b ≡ suc i) × Over ns a (node_of ns i).parent)
over-view ns a b itself = inl refl
over-view ns a b (higher i o) = inr (i, refl, o)

-- nodes whose parents come earlier
module _ (ns : List Node) (low : (i : ℕ) → (node_of ns i).parent ≤ i) where
  over-le : (a b : ℕ) → Over ns a b → a ≤ b
  over-le a b itself = omega arith
  over-le a b (higher i o) = omega (arith, over-le a (node_of ns i).parent o, low i)

  over_by : (a f b : ℕ) → b < f → Dec (Over ns a b)
  over_by a zero b h = absurd (omega arith)
  over_by a (suc f) b h = go (ℕ_discrete a b) (λ c l. over_by a f c l)
    where
      under : (b : ℕ) → b < suc f → (a ≡ b → ⊥) → ((c : ℕ) → c < f → Dec (Over ns a c)) → Dec (Over ns a b)
      under zero h n ih = no (λ o. at (over-view ns a 0 o))
        where
          at : (a ≡ 0) ⊎ ((i : ℕ) × (0 ≡ suc i) × Over ns a (node_of ns i).parent) → ⊥
          at (inl e) = n e
          at (inr w) = omega (arith, w.1)
      under (suc i) h n ih = on (ih (node_of ns i).parent (omega (arith, low i)))
        where
          at : (Over ns a (node_of ns i).parent → ⊥) → (a ≡ suc i) ⊎ ((j : ℕ) × (suc i ≡ suc j) × Over ns a (node_of ns j).parent) → ⊥
          at m (inl e) = n e
          at m (inr w) = let s : w.0 ≡ i = omega (arith, w.1) in m (subst (λ (j : ℕ). Over ns a (node_of ns j).parent) s w.2)

          on : Dec (Over ns a (node_of ns i).parent) → Dec (Over ns a (suc i))
          on (yes o) = yes (higher i o)
          on (no m) = no (λ o. at m (over-view ns a (suc i) o))

      go : Dec (a ≡ b) → ((c : ℕ) → c < f → Dec (Over ns a c)) → Dec (Over ns a b)
      go (yes e) ih = yes (subst (λ (c : ℕ). Over ns a c) e itself)
      go (no n) ih = under b h n ih

  -- of two nodes in a row that are both above a third, the first is the second's parent
  over-both : (i k : ℕ) → Over ns i k → Over ns (suc i) k → (node_of ns i).parent ≡ i
  over-both i k o itself = go (over-view ns i (suc i) o)
    where
      go : (i ≡ suc i) ⊎ ((j : ℕ) × (suc i ≡ suc j) × Over ns i (node_of ns j).parent) → (node_of ns i).parent ≡ i
      go (inl e) = absurd (omega arith)
      go (inr w) =
          let s : w.0 ≡ i = omega (arith, w.1) in
          let h = over-le i (node_of ns w.0).parent w.2 in
          let e : (node_of ns w.0).parent ≡ (node_of ns i).parent = ap (λ j. (node_of ns j).parent) s in
          omega (arith, h, low i, e)
  over-both i k o (higher j u) = go (over-view ns i (suc j) o) (λ c. over-both i (node_of ns j).parent c u)
    where
      go : (i ≡ suc j) ⊎ ((m : ℕ) × (suc j ≡ suc m) × Over ns i (node_of ns m).parent)
          → (Over ns i (node_of ns j).parent → (node_of ns i).parent ≡ i) → (node_of ns i).parent ≡ i
      go (inl e) ih = absurd (omega (arith, over-le (suc i) (node_of ns j).parent u, low j))
      go (inr w) ih = let s : w.0 ≡ j = omega (arith, w.1) in ih (subst (λ (m : ℕ). Over ns i (node_of ns m).parent) s w.2)

  -- linked nodes are above the last of them
  link_at : (m k i : ℕ) → linked ns m k ≡ true → m < i → i < k → (node_of ns i).parent ≡ i
  unfolding linked
  link_at m k i e h l =
      let o : suc m + (i - suc m) ≡ i = omega arith in
      let z = all-to (k - suc m) (λ j. eqb (node_of ns (suc m + j)).parent (suc m + j)) e (i - suc m) (omega arith) in
      eqb-true (node_of ns i).parent i (ap (λ j. eqb (node_of ns j).parent j) (sym o) ∙ z)

  linked-over : (m k a d : ℕ) → linked ns m k ≡ true → m < a → a + d ≤ k → Over ns a (a + d)
  linked-over m k a zero e h l = subst (λ (b : ℕ). Over ns a b) (omega arith) itself
  linked-over m k a (suc d) e h l =
      let o : suc (a + d) ≡ a + suc d = omega arith in
      let p = link_at m k (a + d) e (omega arith) (omega arith) in
      subst (λ (b : ℕ). Over ns a b) o (higher (a + d) (subst (λ (b : ℕ). Over ns a b) (sym p) (linked-over m k a d e h (omega arith))))

  over-linked : (m k a : ℕ) → linked ns m k ≡ true → m < a → a ≤ k → Over ns a k
  over-linked m k a e h l = let o : a + (k - a) ≡ k = omega arith in subst (λ (b : ℕ). Over ns a b) o (linked-over m k a (k - a) e h (omega arith))

  -- of nodes that are not linked, one before the last is not above it
  not-linked : (m k : ℕ) → linked ns m k ≡ false → (a : ℕ) × (m < a) × (a < k) × (Over ns a k → ⊥)
  unfolding linked
  not-linked m k e =
      let w = forall-not (k - suc m) (λ j. eqb (node_of ns (suc m + j)).parent (suc m + j)) e in
      let i : ℕ = suc m + w.0 in
      go i (omega (arith, w.1)) (omega arith) (λ q. true≢false (sym (eq-eqb (node_of ns i).parent i q) ∙ w.2))
      (over_by i (suc k) k (omega arith)) (over_by (suc i) (suc k) k (omega arith))
    where
      go : (i : ℕ) → suc i ≤ k → m < i → ((node_of ns i).parent ≡ i → ⊥) → Dec (Over ns i k) → Dec (Over ns (suc i) k) → (a : ℕ) × (m < a)
          × (a < k) × (Over ns a k → ⊥)
      go i h l n (no o) c = (i, l, omega arith, o)
      go i h l n (yes o) (yes c) = absurd (n (over-both i k o c))
      go i h l n (yes o) (no c) = (suc i, omega arith, less (ℕ_discrete (suc i) k), c)
        where
          less : Dec (suc i ≡ k) → suc i < k
          less (yes q) = absurd (c (subst (λ (b : ℕ). Over ns (suc i) b) q itself))
          less (no q) = omega arith

  -- a scan that goes through: each new number up to its end appears, and none before a later one
  reached-over : (ks : List ℕ) (m r a : ℕ) → reached ns m ks ≡ some r → m < a → a ≤ r → (p : ℕ) × (p < length ks) × Over ns a (get_or ks p 0)
  unfolding reached
  reached-over [] m r a e h l = let q : m ≡ r = cc in absurd (omega arith)
  reached-over (k ∷ ks) m r a e h l = go (leb k m) refl (linked ns m k) refl e (dec_lt k a) (λ z f g. reached-over ks z r a f g l)
    where
      later : (p : ℕ) × (p < length ks) × Over ns a (get_or ks p 0) → (p : ℕ) × (p < length (k ∷ ks)) × Over ns a (get_or (k ∷ ks) p 0)
      later w = (suc w.0, omega (arith, w.1), w.2)

      go : (b : Bool) → leb k m ≡ b → (c : Bool) → linked ns m k ≡ c → cond b (reached ns m ks) (cond c (reached ns k ks) none) ≡ some r → Dec (k < a)
          → ((z : ℕ) → reached ns z ks ≡ some r → z < a → (p : ℕ) × (p < length ks) × Over ns a (get_or ks p 0))
          → (p : ℕ) × (p < length (k ∷ ks)) × Over ns a (get_or (k ∷ ks) p 0)
      go true p c q e d ih = later (ih m e h)
      go false p true q e (yes d) ih = later (ih k e d)
      go false p true q e (no d) ih = (0, omega arith, over-linked m k a q h (omega arith))
      go false p false q e d ih = let z : ◌≡◌ {A = ℕ} 0 1 = cc in absurd (omega arith)

  reached-first : (ks : List ℕ) (m r a p : ℕ) → reached ns m ks ≡ some r → p < length ks → m < a → a ≤ get_or ks p 0 → (q : ℕ) × (q ≤ p) × Over ns a (get_or ks q 0)
  unfolding reached
  reached-first [] m r a p e i h l = absurd (omega arith)
  reached-first (k ∷ ks) m r a p e i h l = go (leb k m) refl (linked ns m k) refl e (dec_lt k a) p i l (λ z p f i g l. reached-first ks z r a p f i g l)
    where
      go : (b : Bool) → leb k m ≡ b → (c : Bool) → linked ns m k ≡ c → cond b (reached ns m ks) (cond c (reached ns k ks) none) ≡ some r → Dec (k < a)
          → (p : ℕ) → p < length (k ∷ ks) → a ≤ get_or (k ∷ ks) p 0
          → ((z p : ℕ) → reached ns z ks ≡ some r → p < length ks → z < a → a ≤ get_or ks p 0 → (q : ℕ) × (q ≤ p) × Over ns a (get_or ks q 0))
          → (q : ℕ) × (q ≤ p) × Over ns a (get_or (k ∷ ks) q 0)
      go true b c q e d zero i l ih = absurd (omega (arith, leb-true k m b))
      go true b c q e d (suc p) i l ih = let w = ih m p e (omega arith) h l in (suc w.0, omega (arith, w.1), w.2)
      go false b true q e (yes d) zero i l ih = absurd (omega arith)
      go false b true q e (yes d) (suc p) i l ih = let w = ih k p e (omega arith) d l in (suc w.0, omega (arith, w.1), w.2)
      go false b true q e (no d) p i l ih = (0, omega arith, over-linked m k a q h (omega arith))
      go false b false q e d p i l ih = let z : ◌≡◌ {A = ℕ} 0 1 = cc in absurd (omega arith)

  -- a scan that ends at r has no number over r, and does not go past the last node
  reached-most : (ks : List ℕ) (m r : ℕ) → reached ns m ks ≡ some r → (m ≤ r) × ((p : ℕ) → p < length ks → get_or ks p 0 ≤ r)
  unfolding reached
  reached-most [] m r e = let q : m ≡ r = cc in (omega arith, λ p i. absurd (omega arith))
  reached-most (k ∷ ks) m r e = go (leb k m) refl (linked ns m k) refl e (λ z f. reached-most ks z r f)
    where
      at : k ≤ r → ((p : ℕ) → p < length ks → get_or ks p 0 ≤ r) → (p : ℕ) → p < length (k ∷ ks) → get_or (k ∷ ks) p 0 ≤ r
      at h f zero i = h
      at h f (suc p) i = f p (omega arith)

      go : (b : Bool) → leb k m ≡ b → (c : Bool) → linked ns m k ≡ c → cond b (reached ns m ks) (cond c (reached ns k ks) none) ≡ some r
          → ((z : ℕ) → reached ns z ks ≡ some r → (z ≤ r) × ((p : ℕ) → p < length ks → get_or ks p 0 ≤ r))
          → (m ≤ r) × ((p : ℕ) → p < length (k ∷ ks) → get_or (k ∷ ks) p 0 ≤ r)
      go true b c q e ih = let w = ih m e in (w.0, at (omega (arith, leb-true k m b, w.0)) w.1)
      go false b true q e ih = let w = ih k e in (omega (arith, leb-false k m b, w.0), at w.0 w.1)
      go false b false q e ih = let z : ◌≡◌ {A = ℕ} 0 1 = cc in absurd (omega arith)

  reached-within : (n : ℕ) (ks : List ℕ) (m r : ℕ) → reached ns m ks ≡ some r → m ≤ n → ((p : ℕ) → p < length ks → get_or ks p 0 ≤ n) → r ≤ n
  unfolding reached
  reached-within n [] m r e h f = let q : m ≡ r = cc in omega arith
  reached-within n (k ∷ ks) m r e h f = go (leb k m) (linked ns m k) e (λ z g l. reached-within n ks z r g l (λ p i. f (suc p) (omega arith)))
    where
      go : (b c : Bool) → cond b (reached ns m ks) (cond c (reached ns k ks) none) ≡ some r → ((z : ℕ) → reached ns z ks ≡ some r → z ≤ n → r ≤ n) → r ≤ n
      go true c e ih = ih m e h
      go false true e ih = ih k e (f 0 (omega arith))
      go false false e ih = let z : ◌≡◌ {A = ℕ} 0 1 = cc in absurd (omega arith)

  -- a scan that breaks off: some node appears, and an earlier one has not
  reached-none : (ks : List ℕ) (m : ℕ) → reached ns m ks ≡ none
      → (p : ℕ) × (a : ℕ) × (p < length ks) × (m < a) × (a < get_or ks p 0) × ((q : ℕ) → q ≤ p → Over ns a (get_or ks q 0) → ⊥)
  unfolding reached
  reached-none [] m e = let z : ◌≡◌ {A = ℕ} 0 1 = cc in absurd (omega arith)
  reached-none (k ∷ ks) m e = go (leb k m) refl (linked ns m k) refl e (λ z f. reached-none ks z f)
    where
      later : (z : ℕ) → m ≤ z → k ≤ z → (p : ℕ) × (a : ℕ) × (p < length ks) × (z < a) × (a < get_or ks p 0) × ((q : ℕ) → q ≤ p → Over ns a (get_or ks q 0) → ⊥)
          → (p : ℕ) × (a : ℕ) × (p < length (k ∷ ks)) × (m < a) × (a < get_or (k ∷ ks) p 0) × ((q : ℕ) → q ≤ p → Over ns a (get_or (k ∷ ks) q 0) → ⊥)
      later z h l w = (suc w.0, w.1, omega (arith, w.2), omega (arith, w.3), w.4, at)
        where
          at : (q : ℕ) → q ≤ suc w.0 → Over ns w.1 (get_or (k ∷ ks) q 0) → ⊥
          at zero i o = omega (arith, over-le w.1 k o, w.3)
          at (suc q) i o = w.5 q (omega arith) o

      go : (b : Bool) → leb k m ≡ b → (c : Bool) → linked ns m k ≡ c → cond b (reached ns m ks) (cond c (reached ns k ks) none) ≡ none
          → ((z : ℕ) → reached ns z ks ≡ none → (p : ℕ) × (a : ℕ) × (p < length ks) × (z < a) × (a < get_or ks p 0)
          × ((q : ℕ) → q ≤ p → Over ns a (get_or ks q 0) → ⊥))
          → (p : ℕ) × (a : ℕ) × (p < length (k ∷ ks)) × (m < a) × (a < get_or (k ∷ ks) p 0) × ((q : ℕ) → q ≤ p → Over ns a (get_or (k ∷ ks) q 0) → ⊥)
      go true b c q e ih = later m (omega arith) (leb-true k m b) (ih m e)
      go false b true q e ih = later k (omega (arith, leb-false k m b)) (omega arith) (ih k e)
      go false b false q e ih = let w = not-linked m k q in (0, w.0, omega arith, w.1, w.2, at w.0 w.3)
        where
          at : (a : ℕ) → (Over ns a k → ⊥) → (q : ℕ) → q ≤ 0 → Over ns a (get_or (k ∷ ks) q 0) → ⊥
          at a n zero i o = n o
          at a n (suc q) i o = omega arith

same-node : (a b : Node) → same_node a b ≡ true → a ≡ b
same-node a b e =
    let p = (and-eq-true_iff (eqb a.category b.category) (eqb a.parent b.parent && same_name a.last b.last)).0 e in
    let q = (and-eq-true_iff (eqb a.parent b.parent) (same_name a.last b.last)).0 p.1 in
    let c = eqb-true a.category b.category p.0 in
    let k = eqb-true a.parent b.parent q.0 in
    let l = name-exact.to a.last b.last q.1 in
    λ i. record { category = c i; parent = k i; last = l i }

node-same : (a b : Node) → a ≡ b → same_node a b ≡ true
node-same a b e = ap (same_node a) (sym e) ∙ self a
  where
    self : (a : Node) → same_node a a ≡ true
    self a = rw (eq-eqb a.category a.category refl, eq-eqb a.parent a.parent refl) (name-exact.self a.last)

module _ (x : Tree) where
  abbrev ns : List Node
  ns = x.nodes

  abbrev ks : List ℕ
  ks = numbers_of x

  -- the tests in a row
  abbrev known : Bool
  known = all (λ n. ltb n.category (length x.names)) ns

  abbrev there : Bool
  there = all (within 1 (length ns)) ks

  flat : numbered x ≡ (known && there)
  unfolding numbered
  flat = ap (λ b. known && b) (all-joined (within 1 (length ns)) x.signals)

  number-there : there ≡ true → (k : ℕ) → Memᴰ k ks → (1 ≤ k) × (k ≤ length ns)
  number-there e k m =
      let b = (and-eq-true_iff (leb 1 k) (leb k (length ns))).0 (all-mem (within 1 (length ns)) ks k e m) in
      (leb-true 1 k b.0, leb-true k (length ns) b.1)

  lows : all_parented ns ≡ true → (i : ℕ) → (node_of ns i).parent ≤ i
  unfolding all_parented
  lows e i = go (dec_lt i (length ns))
    where
      of : RightParent ns i → (node_of ns i).parent ≤ i
      of (inl z) = omega arith
      of (inr w) = omega (arith, w.1, w.2)

      go : Dec (i < length ns) → (node_of ns i).parent ≤ i
      go (yes h) = of (parent-right ns i (all-to (length ns) (parented ns) e i h))
      go (no h) = let z : (node_of ns i).parent ≡ 0 = ap (λ (n : Node). n.parent) (get_or-eq_default ns no_node (omega arith)) in omega arith

  count-some : (n : ℕ) (o : Option ℕ) → is_count n o ≡ true → o ≡ some n
  count-some n none e = absurd (false≢true e)
  count-some n (some m) e = ap some (eqb-true m n e)

  -- none of the reasons, if the tests pass
  module _ (a : known ≡ true) (b : there ≡ true) (c : all_parented ns ≡ true) (d : no_two same_node ns ≡ true) (e : reached ns 0 ks ≡ some (length ns)) where
    no-reason : Ungrown x → ⊥
    unfolding all_parented
    no-reason (no-category i h l) =
        omega (
          arith,
          ltb-true (node_of ns i).category (length x.names) (all-mem (λ n. ltb n.category (length x.names)) ns
              (node_of ns i) a (mem-at ns i no_node h)),
        )
    no-reason (no-node k m (inl z)) = omega (arith, number-there b k m)
    no-reason (no-node k m (inr z)) = omega (arith, number-there b k m)
    no-reason (no-parent i h n) = n (parent-right ns i (all-to (length ns) (parented ns) c i h))
    no-reason (repeated i j h l q) = true≢false (sym (node-same (node_of ns i) (node_of ns j) q) ∙ two_at same_node ns no_node d i j h l)
    no-reason (unused k h l n) = let w = reached-over ns (lows c) ks 0 (length ns) k e (omega arith) l in n w.0 (record { there = w.1; over = w.2 })
    no-reason (out_of_order k j p h l o n) =
        let u = over-le ns (lows c) j (get_or ks p 0) o.over in
        let w = reached-first ns (lows c) ks 0 (length ns) k p e o.there (omega arith) (omega arith) in
        let i = o.there in
        n w.0 w.1 (record { there = omega (arith, w.1); over = w.2 })

  -- a reason, if a test fails
  not_known : known ≡ false → Ungrown x
  not_known e =
      let w = all-not (λ n. ltb n.category (length x.names)) ns no_node e in
      no-category w.0 w.1 (ltb-false (node_of ns w.0).category (length x.names) w.2)

  not_there : there ≡ false → Ungrown x
  not_there e =
      let w = all-not (within 1 (length ns)) ks 0 e in
      no-node (get_or ks w.0 0) (mem-at ks w.0 0 w.1) (go (get_or ks w.0 0) w.2)
    where
      go : (k : ℕ) → within 1 (length ns) k ≡ false → (k ≡ 0) ⊎ (length ns < k)
      go zero e = inl refl
      go (suc k) e = inr (leb-false (suc k) (length ns) (rw (le-leb 1 (suc k) (omega arith)) at e))

  not-parented : all_parented ns ≡ false → Ungrown x
  unfolding all_parented
  not-parented e =
      let w = forall-not (length ns) (parented ns) e in
      no-parent w.0 w.1 (λ r. true≢false (sym (right-parent ns w.0 r) ∙ w.2))

  not-once : no_two same_node ns ≡ false → Ungrown x
  not-once e =
      let w = two-not same_node ns no_node e in
      repeated w.0 w.1 w.2 w.3 (same-node (node_of ns w.0) (node_of ns w.1) w.4)

  not-reached : there ≡ true → all_parented ns ≡ true → (o : Option ℕ) → reached ns 0 ks ≡ o → is_count (length ns) o ≡ false → Ungrown x
  not-reached b c none e f =
      let w = reached-none ns (lows c) ks 0 e in
      out_of_order w.1 (get_or ks w.0 0) w.0 (omega (arith, w.3)) w.4 (record { there = w.2; over = itself }) (λ q h o. w.5 q h o.over)
  not-reached b c (some r) e f =
      let w = reached-most ns (lows c) ks 0 r e in
      let l = reached-within ns (lows c) (length ns) ks 0 r e (omega arith) (λ p h. (number-there b (get_or ks p 0) (mem-at ks p 0 h)).1) in
      let n : r ≡ length ns → ⊥ = λ q. true≢false (sym (eq-eqb r (length ns) q) ∙ f) in
      unused (suc r) (omega arith) (more r l n) (λ p o. past r p w.1 o)
    where
      more : (r : ℕ) → r ≤ length ns → (r ≡ length ns → ⊥) → suc r ≤ length ns
      more r l n = go (dec_lt r (length ns))
        where
          go : Dec (r < length ns) → suc r ≤ length ns
          go (yes h) = h
          go (no h) = absurd (n (omega arith))

      past : (r p : ℕ) → ((p : ℕ) → p < length ks → get_or ks p 0 ≤ r) → Appears x (suc r) p → ⊥
      past r p h o = omega (arith, over-le ns (lows c) (suc r) (get_or ks p 0) o.over, h p o.there)

  reasons : (grown x ≡ false) ↔ Ungrown x
  unfolding scanned
  reasons = (to, from)
    where
      row : grown x ≡ ((known && there) && (all_parented ns && (no_two same_node ns && is_count (length ns) (reached ns 0 ks))))
      row = grown-scanned x ∙ ap (λ b. b && (all_parented ns && scanned x)) flat

      to : grown x ≡ false → Ungrown x
      to e = go known refl there refl (all_parented ns) refl (no_two same_node ns) refl (is_count (length ns) (reached ns 0 ks)) refl (sym row ∙ e)
        where
          go : (a : Bool) → known ≡ a → (b : Bool) → there ≡ b → (c : Bool) → all_parented ns ≡ c → (d : Bool) → no_two same_node ns ≡ d
              → (f : Bool) → is_count (length ns) (reached ns 0 ks) ≡ f → (a && b) && (c && (d && f)) ≡ false → Ungrown x
          go false p b q c r d s f t e = not_known p
          go true p false q c r d s f t e = not_there q
          go true p true q false r d s f t e = not-parented r
          go true p true q true r false s f t e = not-once s
          go true p true q true r true s false t e = not-reached q r (reached ns 0 ks) refl t
          go true p true q true r true s true t e = absurd (true≢false e)

      from : Ungrown x → grown x ≡ false
      from u = by_test (grown x) (λ e. absurd (go (sym row ∙ e))) (λ e. e)
        where
          go : (known && there) && (all_parented ns && (no_two same_node ns && is_count (length ns) (reached ns 0 ks))) ≡ true → ⊥
          go e =
              let f = (and-eq-true_iff (known && there) (all_parented ns && (no_two same_node ns && is_count (length ns) (reached ns 0 ks)))).0 e in
              let g = (and-eq-true_iff known there).0 f.0 in
              let h = (and-eq-true_iff (all_parented ns) (no_two same_node ns && is_count (length ns) (reached ns 0 ks))).0 f.1 in
              let i = (and-eq-true_iff (no_two same_node ns) (is_count (length ns) (reached ns 0 ks))).0 h.1 in
              no-reason g.0 g.1 h.0 i.0 (count-some (length ns) (reached ns 0 ks) i.1) u

-- 21 in words
pub ungrown-exactly : UngrownExactly
ungrown-exactly x = reasons x
