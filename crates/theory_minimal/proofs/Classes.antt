-- Laws of the classes of equal behaviour: two states have one class exactly if they behave alike, and classes are numbered by
-- their first states; proposals so numbered are the same if they are the same but for the numbers.
use Prim.Native.Nat.{ℕ, zero, suc, ◌≤◌, ◌<◌}
use mathlib.Core.Path.{◌≡◌, sym, ap, ◌∙◌}
use mathlib.Core.Bool.{true}
use mathlib.Core.List.{List}
use lib.ListN.{length}
use lib.Seq.{ext_get_or}
use borrow.Author.Tests.{eqb-true, eq-eqb}
use native.Mathlib.Decide.{dec_lt}
use native.Mathlib.Omega.{arith}
use Rattle.base_lists.proofs.Search.{count_past, count-place}
use Rattle.base_lists.specs.Search.{count}
use Rattle.base_lists.proofs.Tabulated.{tabulate-at, tabulate-length}
use Rattle.theory_minimal.specs.Machine.{Machine, Formed, Alike}
use Rattle.theory_minimal.specs.Proposal.{class_of, ByFirstStates, SameButNumbers}
use Rattle.theory_minimal.specs.Refine.{blocks, is_first, block_number, classes}
use Rattle.theory_minimal.proofs.Refine.{refine-le, refine-leads, settled}
use Rattle.theory_minimal.proofs.Alike.{block-alike, alike-block}

module _ (m : Machine) (formed : Formed m) where
  -- a block's number for a state is a state of the block, and no later one
  pub block-le : (i : ℕ) → i < m.states → class_of (blocks m) i ≤ i
  block-le i h = rw (← settled m formed.some-state) (refine-le m (blocks m) i h)

  pub block-leads : (i : ℕ) → i < m.states → class_of (blocks m) (class_of (blocks m) i) ≡ class_of (blocks m) i
  block-leads i h =
      let s = settled m formed.some-state in
      sym (ap (λ p. class_of p (class_of p i)) s) ∙ refine-leads m (blocks m) i h ∙ ap (λ p. class_of p i) s

  block-first : (i : ℕ) → i < m.states → is_first (blocks m) (class_of (blocks m) i) ≡ true
  block-first i h = eq-eqb (class_of (blocks m) (class_of (blocks m) i)) (class_of (blocks m) i) (block-leads i h)

  pub classes-length : length (classes m) ≡ m.states
  classes-length = tabulate-length (block_number (blocks m)) m.states

  class-number : (i : ℕ) → i < m.states → class_of (classes m) i ≡ block_number (blocks m) i
  class-number i h = tabulate-at (block_number (blocks m)) m.states i 0 h

  -- states of one class are in one block
  class-block : (i j : ℕ) → i < m.states → j < m.states → class_of (classes m) i ≡ class_of (classes m) j → class_of (blocks m) i ≡ class_of (blocks m) j
  class-block i j a b e = go (dec_lt (class_of (blocks m) i) (class_of (blocks m) j)) (dec_lt (class_of (blocks m) j) (class_of (blocks m) i))
    where
      numbers : block_number (blocks m) i ≡ block_number (blocks m) j
      numbers = sym (class-number i a) ∙ e ∙ class-number j b

      go : Dec (class_of (blocks m) i < class_of (blocks m) j) → Dec (class_of (blocks m) j < class_of (blocks m) i) → class_of (blocks m) i ≡ class_of (blocks m) j
      go (yes h) y = absurd (omega (arith, numbers, count_past (is_first (blocks m)) (class_of (blocks m) i) (class_of (blocks m) j) h (block-first i a)))
      go (no h) (yes k) = absurd (omega (arith, numbers, count_past (is_first (blocks m)) (class_of (blocks m) j) (class_of (blocks m) i) k (block-first j b)))
      go (no h) (no k) = omega arith

  -- two states have one class exactly if they behave alike
  pub class-alike : (i j : ℕ) → i < m.states → j < m.states → class_of (classes m) i ≡ class_of (classes m) j → Alike m i j
  class-alike i j a b e = block-alike m formed i j a b (class-block i j a b e)

  pub alike-class : (i j : ℕ) → i < m.states → j < m.states → Alike m i j → class_of (classes m) i ≡ class_of (classes m) j
  alike-class i j a b x = class-number i a ∙ ap (count (is_first (blocks m))) (alike-block m formed i j a b x) ∙ sym (class-number j b)

  -- the classes are numbered by their first states
  pub classes-numbered : ByFirstStates (classes m)
  classes-numbered i c a h =
      let b : i < m.states = omega (arith, classes-length) in
      let r = count-place (is_first (blocks m)) (class_of (blocks m) i) c (rw (class-number i b) at h) in
      let d : r.place < i = omega (arith, r.below, block-le i b) in
      record {
        state = r.place;
        earlier = d;
        classed = class-number r.place (omega arith)
            ∙ ap (count (is_first (blocks m))) (eqb-true (class_of (blocks m) r.place) r.place r.passes) ∙ r.before;
      }

-- numbered by first states, state 0 has class 0
pub first-class : (p : List ℕ) → 0 < length p → ByFirstStates p → class_of p 0 ≡ 0
first-class p h f = go (dec_lt 0 (class_of p 0))
  where
    go : Dec (0 < class_of p 0) → class_of p 0 ≡ 0
    go (yes a) = absurd (omega (arith, (f 0 0 h a).earlier))
    go (no a) = omega arith

-- proposals numbered by first states that are the same but for the numbers are the same
module _ (n : ℕ) (p q : List ℕ) (p-sized : length p ≡ n) (q-sized : length q ≡ n) (same : SameButNumbers n p q) (p-first : ByFirstStates p)
    (q-first : ByFirstStates q) where
  at_first : (i : ℕ) → i < n → ((j : ℕ) → j < i → class_of p j ≡ class_of q j) → class_of p i ≡ class_of q i
  at_first i h before = go (dec_lt (class_of p i) (class_of q i)) (dec_lt (class_of q i) (class_of p i))
    where
      go : Dec (class_of p i < class_of q i) → Dec (class_of q i < class_of p i) → class_of p i ≡ class_of q i
      go (yes a) y =
          let r = q-first i (class_of p i) (omega arith) a in
          let b = r.earlier in
          let e : class_of p r.state ≡ class_of p i = before r.state b ∙ r.classed in
          let d : class_of q r.state ≡ class_of q i = (same r.state i (omega arith) h).0 e in
          absurd (omega (arith, r.classed))
      go (no x) (yes a) =
          let r = p-first i (class_of q i) (omega arith) a in
          let b = r.earlier in
          let e : class_of q r.state ≡ class_of q i = sym (before r.state b) ∙ r.classed in
          let d : class_of p r.state ≡ class_of p i = (same r.state i (omega arith) h).1 e in
          absurd (omega (arith, r.classed))
      go (no x) (no y) = omega arith

  up_to : (k : ℕ) → k ≤ n → (j : ℕ) → j < k → class_of p j ≡ class_of q j
  up_to zero h j a = absurd (omega arith)
  up_to (suc k) h j a = go (dec_lt j k) (up_to k (omega arith))
    where
      go : Dec (j < k) → ((j : ℕ) → j < k → class_of p j ≡ class_of q j) → class_of p j ≡ class_of q j
      go (yes b) ih = ih j b
      go (no b) ih = let e : j ≡ k = omega arith in rw e (at_first k (omega arith) ih)

  pub same-proposal : p ≡ q
  same-proposal = ext_get_or 0 p q (p-sized ∙ sym q-sized) (λ i h. up_to n (omega arith) i (omega arith))
