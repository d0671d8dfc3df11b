-- What the way back holds, step by step.
use Prim.Native.Nat.{ℕ, zero, suc, ◌+◌, ◌-◌, ◌≤◌, ◌<◌}
use mathlib.Core.Path.{◌≡◌, refl, sym, ap, ap₂, ◌∙◌}
use mathlib.Core.Bool.{Bool}
use mathlib.Core.List.{List, [], ◌∷◌, ◌++◌, map, map-append, append_assoc, append-nil}
use lib.Dec.{eqb, ltb}
use lib.ListN.{get_or, set, drop, length, length-set, length-drop, replicate}
use lib.Seq.{drop-cons, get_or-set_same, drop-set-lt, set_at}
use borrow.Author.Tests.{eq-eqb, ne_eqb, lt-ltb, le-ltb}
use native.Mathlib.Numerals.{add-one}
use native.Mathlib.Omega.{arith}
use Rattle.std.proofs.lemmas.List.{drop-replicate}
use Rattle.base_numbers.specs.Numbers.{most_signals}
use Rattle.theory_kept.specs.Way.{symbol_to, state_before, way_back, way_to}
use Rattle.table_kept.specs.declared.found.Found.{Found}
use Rattle.table_kept.specs.declared.passed.Way.{Way}
use Rattle.table_kept.specs.Held.{signals_in, nodes_in, before_in, node_back, padded}
use Rattle.table_kept.proofs.SearchLaws.{in-length, NoneTo, none_more, first-is, first-none}

-- the first node that leads from s to x
module _ (next : ℕ → ℕ → ℕ) (nodes s x : ℕ) where
  abbrev pub leads : ℕ → Bool
  leads k = eqb (next s k) x

  pub to-here : {y : ℕ} (k : ℕ) → NoneTo leads nodes k → k < nodes → y ≡ next s k → y ≡ x → k ≡ symbol_to eqb next nodes 0 s x
  to-here k h l e i = first-is leads nodes k h l (eq-eqb (next s k) x (sym e ∙ i))

  pub to-later : {y : ℕ} (k : ℕ) → NoneTo leads nodes k → y ≡ next s k → (y ≡ x → ⊥) → NoneTo leads nodes (k + 1)
  to-later k h e i = none_more leads nodes k h (ne_eqb (next s k) x (λ p. i (e ∙ p)))

  pub to_none : (k : ℕ) → NoneTo leads nodes k → nodes ≤ k → nodes ≡ symbol_to eqb next nodes 0 s x
  to_none k h l = first-none leads nodes (λ j i. h j (omega arith))

-- the first signal from which a node leads to x
module _ (next : ℕ → ℕ → ℕ) (nodes : ℕ) (h : Found) (x : ℕ) where
  abbrev pub leads_at : ℕ → Bool
  leads_at a = ltb (symbol_to eqb next nodes 0 (get_or (signals_in h) a 0) x) nodes

  to_is : {s k : ℕ} (a : ℕ) → s ≡ get_or (signals_in h) a 0 → k ≡ symbol_to eqb next nodes 0 s x → symbol_to eqb next nodes 0 (get_or (signals_in h) a 0) x ≡ k
  to_is a e i = sym (i ∙ ap (λ z. symbol_to eqb next nodes 0 z x) e)

  pub from-here : {s k : ℕ} (a : ℕ) → NoneTo leads_at h.count a → a < h.count → s ≡ get_or (signals_in h) a 0 → k ≡ symbol_to eqb next nodes 0 s x → k < nodes
      → a ≡ state_before eqb next nodes 0 (signals_in h) x
  from-here {k} a b l e i j =
      first-is leads_at (length (signals_in h)) a b (omega (arith, in-length h)) (ap (λ z. ltb z nodes) (to_is a e i) ∙ lt-ltb k nodes j)

  pub from-later : {s k : ℕ} (a : ℕ) → NoneTo leads_at h.count a → s ≡ get_or (signals_in h) a 0 → k ≡ symbol_to eqb next nodes 0 s x
      → nodes ≤ k → NoneTo leads_at h.count (a + 1)
  from-later {k} a b e i j = none_more leads_at h.count a b (ap (λ z. ltb z nodes) (to_is a e i) ∙ le-ltb k nodes j)

  pub from-none : (a : ℕ) → NoneTo leads_at h.count a → h.count ≤ a → h.count ≡ state_before eqb next nodes 0 (signals_in h) x
  from-none a b l = sym (in-length h) ∙ first-none leads_at (length (signals_in h)) (λ j i. b j (omega (arith, in-length h)))

-- one more node before the others
module _ (w : Way) (low : w.len < most_signals) (v : ℕ) where
  pub first-put : drop (most_signals - (w.len + 1)) (set w.nodes (31 - w.len) v) ≡ v ∷ nodes_in w
  first-put =
      let m = 31 - w.len in
      let i : most_signals - (w.len + 1) ≡ m = omega arith in
      let j : suc m ≡ most_signals - w.len = omega arith in
      let b : m < length w.nodes = omega (arith, w.wide) in
      ap (λ k. drop k (set w.nodes m v)) i
      ∙ drop-cons (set w.nodes m v) m 0 (omega (arith, length-set w.nodes m v))
      ∙ ap₂ (λ x l. x ∷ l) (get_or-set_same w.nodes m v 0 b) (drop-set-lt (suc m) w.nodes m v (omega arith) ∙ ap (λ k. drop k w.nodes) j)

-- one step back
module _ (next : ℕ → ℕ → ℕ) (nodes : ℕ) (l : List ℕ) (at : ℕ) {x b : ℕ} (e : x ≡ get_or l at 0) (i : b ≡ state_before eqb next nodes 0 l x) where
  pub back_at : b ≡ before_in next nodes l at
  back_at = i ∙ ap (state_before eqb next nodes 0 l) e

  pub back-node : {s k : ℕ} → s ≡ get_or l b 0 → k ≡ symbol_to eqb next nodes 0 s x → k + 1 ≡ suc (node_back next nodes l at)
  back-node {k} j m = add-one k ∙ ap suc (m ∙ ap₂ (symbol_to eqb next nodes 0) (j ∙ ap (λ z. get_or l z 0) back_at) e)

-- the steps back, from the signal with number j
module _ (next : ℕ → ℕ → ℕ) (nodes : ℕ) (l : List ℕ) (j : ℕ) where
  -- after some steps: what is still to come, before the nodes passed
  abbrev pub Passed : ℕ → ℕ → List ℕ → Type 0
  Passed left at ns = map suc (way_to eqb next nodes 0 l j) ≡ map suc (way_back eqb next nodes 0 l left at) ++ ns

  pub passed_none : Passed j j []
  passed_none = sym (append-nil (map suc (way_to eqb next nodes 0 l j)))

  back-root : (left : ℕ) → way_back eqb next nodes 0 l left 0 ≡ []
  unfolding way_back
  back-root zero = refl
  back-root (suc n) = refl

  pub passed-all : (left at : ℕ) (ns : List ℕ) → Passed left at ns → at ≡ 0 → ns ≡ map suc (way_to eqb next nodes 0 l j)
  passed-all left at ns p e = sym (p ∙ ap (λ z. map suc z ++ ns) (ap (way_back eqb next nodes 0 l left) e ∙ back-root left))

  pub passed-end : (left at : ℕ) (ns : List ℕ) → Passed left at ns → left ≤ 0 → ns ≡ map suc (way_to eqb next nodes 0 l j)
  unfolding way_back
  passed-end left at ns p h = let e : left ≡ 0 = omega arith in sym (p ∙ ap (λ n. map suc (way_back eqb next nodes 0 l n at) ++ ns) e)

  one-back : (n at : ℕ) → (at ≡ 0 → ⊥) → way_back eqb next nodes 0 l (suc n) at ≡ way_back eqb next nodes 0 l n (before_in next nodes l at)
      ++ node_back next nodes l at ∷ []
  unfolding way_back
  one-back n zero h = absurd (h refl)
  one-back n (suc at) h = refl

  pub passed-more : {b : ℕ} {ms : List ℕ} (left at : ℕ) (ns : List ℕ) → Passed left at ns → 0 < left → (at ≡ 0 → ⊥)
      → b ≡ before_in next nodes l at → ms ≡ suc (node_back next nodes l at) ∷ ns
      → Passed (left - 1) b ms
  passed-more {b} {ms} left at ns p h z e i =
      let m : left ≡ suc (left - 1) = omega arith in
      p ∙ ap (λ n. map suc (way_back eqb next nodes 0 l n at) ++ ns) m
      ∙ ap (λ w. map suc w ++ ns) (one-back (left - 1) at z)
      ∙ ap (λ w. w ++ ns) (map-append suc (way_back eqb next nodes 0 l (left - 1) (before_in next nodes l at)) (node_back next nodes l at ∷ []))
      ∙ append_assoc (map suc (way_back eqb next nodes 0 l (left - 1) (before_in next nodes l at))) (suc (node_back next nodes l at) ∷ []) ns
      ∙ ap₂ (λ k q. map suc (way_back eqb next nodes 0 l (left - 1) k) ++ q) (sym e) (sym i)

-- a number over the first zero after a list
pub over : (l : List ℕ) (k v : ℕ) → length l ≡ k → k < most_signals → set (l ++ replicate (most_signals - k) 0) k v ≡ (l ++ v ∷ [])
    ++ replicate (most_signals - (k + 1)) 0
over l k v h b =
    let m : most_signals - k ≡ suc (most_signals - (k + 1)) = omega arith in
    ap (λ j. set (l ++ replicate j 0) k v) m
    ∙ set_at l 0 (replicate (most_signals - (k + 1)) 0) v k h
    ∙ sym (append_assoc l (v ∷ []) (replicate (most_signals - (k + 1)) 0))

module _ (w : Way) where
  pub nodes-length : length (nodes_in w) ≡ w.len
  nodes-length = length-drop (most_signals - w.len) w.nodes ∙ omega (arith, w.wide, w.few)

  -- they are written over zeros
  pub front-is : {l : List ℕ} → l ≡ nodes_in w → l ++ drop w.len (replicate most_signals 0) ≡ padded (nodes_in w)
  front-is {l} e =
      ap (λ k. k ++ drop w.len (replicate most_signals 0)) e
      ∙ ap (λ k. nodes_in w ++ k) (drop-replicate w.len most_signals 0)
      ∙ ap (λ k. nodes_in w ++ replicate (most_signals - k) 0) (sym nodes-length)
