-- Laws of proposals: the smaller machine resolves as the large one does, and a proposal fits exactly if it passes the test.
use Prim.Native.Nat.{ℕ, zero, suc, ◌<◌}
use mathlib.Core.Path.{◌≡◌, refl, sym, ap, ◌∙◌}
use mathlib.Core.Bool.{true, ◌&&◌, and-eq-true_iff}
use mathlib.Core.List.{List, [], ◌∷◌}
use lib.Dec.{eqb}
use lib.ListN.{length}
use borrow.Author.Tests.{eqb-true, eq-eqb}
use native.Mathlib.Omega.{arith}
use Rattle.base_lists.proofs.Search.{seek_found, highest-above}
use Rattle.base_lists.proofs.Lists.{eqb-exact, list-exact}
use Rattle.base_lists.specs.Lists.{same_list}
use Rattle.theory_minimal.specs.Machine.{Machine, Formed, Sequence, signal_after, Alike}
use Rattle.theory_minimal.specs.Proposal.{class_of, has_class, first_of, class_count, small, ReachedClass, Fits}
use Rattle.theory_minimal.specs.Refine.{same_class, same_row, leaders, refined, blocks}
use Rattle.theory_minimal.specs.Test.{fits, all_reached}
use Rattle.theory_minimal.proofs.Leaders.{leaders-same, leaders-to, leaders-agree}
use Rattle.theory_minimal.proofs.Refine.{class-likeness, row-likeness}
use Rattle.theory_minimal.proofs.Alike.{sequence-first, sequence-rest, alike-signal, alike-target, follow, block-alike, alike-block}
use Rattle.theory_minimal.proofs.Reach.{reached-state, all-reached-to, all-reached-of}

-- the class of a state is one of the classes
pub class-below : (p : List ℕ) (i : ℕ) → i < length p → class_of p i < class_count p
class-below p i h = omega (arith, highest-above (class_of p) (length p) i h)

-- the first state of a state's class is a state of that class
pub first_found : (p : List ℕ) (i : ℕ) → i < length p → (first_of p (class_of p i) < length p) × (class_of p (first_of p (class_of p i)) ≡ class_of p i)
first_found p i h =
    let a = seek_found (has_class p (class_of p i)) (length p) i h (eq-eqb (class_of p i) (class_of p i) refl) in
    (a.0, eqb-true (class_of p (first_of p (class_of p i))) (class_of p i) a.1)

module _ (m : Machine) (formed : Formed m) (p : List ℕ) (sized : length p ≡ m.states) where
  -- what the smaller machine rests on: states of a class have one signal and lead to the same classes
  pub record Consistent : Type 0 where
    pub one-signal : (i j : ℕ) → i < m.states → j < m.states → class_of p i ≡ class_of p j → m.signal i ≡ m.signal j
    pub one-row : (i j k : ℕ) → i < m.states → j < m.states → k < m.symbols → class_of p i ≡ class_of p j → class_of p (m.target i k)
        ≡ class_of p (m.target j k)

  -- from the class of a state the smaller machine gives the signals that the large one gives from the state
  pub small-follows : Consistent → (i : ℕ) → i < m.states → (w : List ℕ) → Sequence m w → signal_after (small m p) (class_of p i) w ≡ signal_after m i w
  small-follows s i h [] l =
      let a = first_found p i (omega arith) in
      s.one-signal (first_of p (class_of p i)) i (omega (arith, a.0)) h a.1
  small-follows s i h (k ∷ w) l =
      let b = sequence-first m k w l in
      let a = first_found p i (omega arith) in
      let e : (small m p).target (class_of p i) k ≡ class_of p (m.target i k) = s.one-row (first_of p (class_of p i)) i k (omega (arith, a.0)) h b a.1 in
      ap (λ c. signal_after (small m p) c w) e
      ∙ small-follows s (m.target i k) (formed.leads i k h b) w (sequence-rest m k w l)

  -- a proposal whose classes are those of equal behaviour, and are all reachable, fits
  pub fits-from : class_of p 0 ≡ 0 → ((i j : ℕ) → i < m.states → j < m.states → class_of p i ≡ class_of p j → Alike m i j)
      → ((i j : ℕ) → i < m.states → j < m.states → Alike m i j → class_of p i ≡ class_of p j) → ((c : ℕ) → c < class_count p → ReachedClass m p c) → Fits m p
  fits-from starts to of reached =
      record {
        sized = sized;
        starts = starts;
        one-signal = s.one-signal;
        one-row = s.one-row;
        reachable = reached;
        apart = λ c d a b x. at c d (reached c a) (reached d b) x;
      }
    where
      s : Consistent
      s =
          record {
            one-signal = λ i j a b e. alike-signal m i j (to i j a b e);
            one-row = λ i j k a b h e. of (m.target i k) (m.target j k) (formed.leads i k a h) (formed.leads j k b h)
                (alike-target m i j k h (to i j a b e));
          }

      at : (c d : ℕ) → ReachedClass m p c → ReachedClass m p d → Alike (small m p) c d → c ≡ d
      at c d y z x =
          let i = reached-state m formed y.state y.reached in
          let j = reached-state m formed z.state z.reached in
          sym y.classed
          ∙ of y.state z.state i j
          (λ w l.
          sym (small-follows s y.state i w l)
          ∙ ap (λ u. signal_after (small m p) u w) y.classed
          ∙ x w l
          ∙ sym (ap (λ u. signal_after (small m p) u w) z.classed)
          ∙ small-follows s z.state j w l)
          ∙ z.classed

-- what holds of a proposal that fits
module _ (m : Machine) (formed : Formed m) (p : List ℕ) (f : Fits m p) where
  consistent : Consistent m formed p f.sized
  consistent = record { one-signal = f.one-signal; one-row = f.one-row }

  -- its classes are those of equal behaviour
  pub fits-alike : (i j : ℕ) → i < m.states → j < m.states → class_of p i ≡ class_of p j → Alike m i j
  fits-alike = follow m formed (λ i j. class_of p i ≡ class_of p j) f.one-signal f.one-row

  pub alike-fits : (i j : ℕ) → i < m.states → j < m.states → Alike m i j → class_of p i ≡ class_of p j
  alike-fits i j a b x =
      let z = f.sized in
      f.apart (class_of p i) (class_of p j) (class-below p i (omega arith)) (class-below p j (omega arith))
      (λ w l. small-follows m formed p f.sized consistent i a w l ∙ x w l ∙ sym (small-follows m formed p f.sized consistent j b w l))

  -- the smaller machine gives the large one's signals
  pub small-right : (w : List ℕ) → Sequence m w → signal_after (small m p) 0 w ≡ signal_after m 0 w
  small-right w l =
      sym (ap (λ c. signal_after (small m p) c w) f.starts) ∙ small-follows m formed p f.sized consistent 0 formed.some-state w l

  -- and is formed
  pub small-formed : Formed (small m p)
  small-formed =
      record {
        some-state = omega arith;
        leads = λ c k h i.
            let r = f.reachable c h in
            let a = reached-state m formed r.state r.reached in
            let z = f.sized in
            let b = first_found p r.state (omega arith) in
            let b' : first_of p c < length p = rw r.classed at b.0 in
            class-below p (m.target (first_of p c) k) (omega (arith, formed.leads (first_of p c) k (omega arith) i));
      }

-- the blocks are leaders by the test of rows after the last round but one
blocks-leaders : (m : Machine) (n : ℕ) → 0 < n → (p : List ℕ) × (refined m n ≡ leaders (same_row m p) m.states)
unfolding refined
blocks-leaders m zero h = absurd (omega arith)
blocks-leaders m (suc r) h = (refined m r, refl)

module _ (m : Machine) (formed : Formed m) (p : List ℕ) where
  -- the test of first states tells whether the classes are those of equal behaviour
  pub leaders-right : ((i j : ℕ) → i < m.states → j < m.states → class_of p i ≡ class_of p j → Alike m i j)
      → ((i j : ℕ) → i < m.states → j < m.states → Alike m i j → class_of p i ≡ class_of p j)
      → leaders (same_class p) m.states ≡ blocks m
  leaders-right to of = go (blocks-leaders m m.states formed.some-state)
    where
      go : (q : List ℕ) × (blocks m ≡ leaders (same_row m q) m.states) → leaders (same_class p) m.states ≡ blocks m
      go x =
          leaders-agree (same_class p) (same_row m x.0) m.states
          (λ i j a b e.
          leaders-to (same_row m x.0) (row-likeness m x.0) m.states i j a b
          (rw (← x.1) (alike-block m formed i j a b (to i j a b (eqb-true (class_of p i) (class_of p j) e)))))
          (λ i j a b e.
          eq-eqb (class_of p i) (class_of p j)
          (of i j a b
          (block-alike m formed i j a b (rw x.1 (leaders-same (same_row m x.0) (row-likeness m x.0) m.states i j a b e)))))
          ∙ sym x.1

  leaders-alike : leaders (same_class p) m.states ≡ blocks m → (i j : ℕ) → i < m.states → j < m.states → class_of p i ≡ class_of p j → Alike m i j
  leaders-alike e i j a b q =
      block-alike m formed i j a b
      (rw (← e) (leaders-same (same_class p) (class-likeness p) m.states i j a b (eq-eqb (class_of p i) (class_of p j) q)))

  alike-leaders : leaders (same_class p) m.states ≡ blocks m → (i j : ℕ) → i < m.states → j < m.states → Alike m i j → class_of p i ≡ class_of p j
  alike-leaders e i j a b x =
      eqb-true (class_of p i) (class_of p j)
      (leaders-to (same_class p) (class-likeness p) m.states i j a b (rw e (alike-block m formed i j a b x)))

  -- a proposal that the test accepts fits
  pub test-to : fits m p ≡ true → Fits m p
  test-to e =
      let a = (and-eq-true_iff (eqb (length p) m.states) (eqb (class_of p 0) 0
      && (same_list eqb (leaders (same_class p) m.states) (blocks m) && all_reached m p))).0 e in
      let b = (and-eq-true_iff (eqb (class_of p 0) 0) (same_list eqb (leaders (same_class p) m.states) (blocks m) && all_reached m p)).0 a.1 in
      let c = (and-eq-true_iff (same_list eqb (leaders (same_class p) m.states) (blocks m)) (all_reached m p)).0 b.1 in
      let l = (list-exact eqb-exact).to (leaders (same_class p) m.states) (blocks m) c.0 in
      fits-from m formed p (eqb-true (length p) m.states a.0) (eqb-true (class_of p 0) 0 b.0) (leaders-alike l) (alike-leaders l)
      (all-reached-to m formed p c.1)

  -- and one that fits passes it
  pub test_of : Fits m p → fits m p ≡ true
  test_of f =
      rw (
        eq-eqb (length p) m.states f.sized,
        eq-eqb (class_of p 0) 0 f.starts,
        leaders-right (fits-alike m formed p f) (alike-fits m formed p f),
        (list-exact eqb-exact).self (blocks m),
      )
      (all-reached-of m formed p f.reachable)
