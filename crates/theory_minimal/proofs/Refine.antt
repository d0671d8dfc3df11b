-- Laws of refinement: after as many rounds as there are states nothing changes any more, and then two states have one class
-- exactly if they behave alike.
use Prim.Native.Nat.{ℕ, zero, suc, ◌≤◌, ◌<◌}
use mathlib.Core.Path.{◌≡◌, refl, sym, ap, ◌∙◌}
use mathlib.Core.Logic.{◌⊎◌, inl, inr}
use mathlib.Core.Bool.{true, and-eq-true_iff}
use mathlib.Core.List.{List}
use lib.ListN.{length}
use lib.Seq.{ext_get_or}
use borrow.Author.Tests.{eqb-true, eq-eqb}
use native.Mathlib.Omega.{arith}
use Rattle.base_lists.proofs.Search.{count_fits, count_past, count-grows}
use Rattle.base_lists.specs.Search.{count}
use Rattle.base_lists.proofs.Below.{all-to, all_of}
use Rattle.base_lists.proofs.Tabulated.{tabulate-length}
use Rattle.base_lists.specs.Lists.{all_below}
use Rattle.theory_minimal.specs.Machine.{Machine}
use Rattle.theory_minimal.specs.Proposal.{class_of}
use Rattle.theory_minimal.specs.Refine.{leader, same_class, same_target, same_row, refine, refined, blocks, is_first}
use Rattle.theory_minimal.proofs.Leaders.{Likeness, leader-le, leader-leads, leaders-at, leaders-same, leaders-to}

pub class-likeness : (p : List ℕ) → Likeness (same_class p)
class-likeness p =
    record {
      self = λ i. eq-eqb (class_of p i) (class_of p i) refl;
      join = λ i j l a b. eq-eqb (class_of p j) (class_of p l) (sym (eqb-true (class_of p i) (class_of p j) a) ∙ eqb-true (class_of p i) (class_of p l) b);
    }

module _ (m : Machine) where
  -- what the test of rows says
  pub record RowsAgree (p : List ℕ) (i j : ℕ) : Type 0 where
    pub classed : class_of p i ≡ class_of p j
    pub targets : (k : ℕ) → k < m.symbols → class_of p (m.target i k) ≡ class_of p (m.target j k)

  pub row-to : (p : List ℕ) (i j : ℕ) → same_row m p i j ≡ true → RowsAgree p i j
  row-to p i j e =
      let a = (and-eq-true_iff (same_class p i j) (all_below m.symbols (same_target m p i j))).0 e in
      record {
        classed = eqb-true (class_of p i) (class_of p j) a.0;
        targets = λ k h. eqb-true (class_of p (m.target i k)) (class_of p (m.target j k)) (all-to m.symbols (same_target m p i j) a.1 k h);
      }

  pub row_of : (p : List ℕ) (i j : ℕ) → RowsAgree p i j → same_row m p i j ≡ true
  row_of p i j r =
      (and-eq-true_iff (same_class p i j) (all_below m.symbols (same_target m p i j))).1 (
        eq-eqb (class_of p i) (class_of p j) r.classed,
        all_of m.symbols (same_target m p i j) (λ k h. eq-eqb (class_of p (m.target i k)) (class_of p (m.target j k)) (r.targets k h)),
      )

  pub row-likeness : (p : List ℕ) → Likeness (same_row m p)
  row-likeness p =
      record {
        self = λ i. row_of p i i (record { classed = refl; targets = λ k h. refl });
        join = λ i j l a b.
            let r = row-to p i j a in
            let s = row-to p i l b in
            row_of p j l (record { classed = sym r.classed ∙ s.classed; targets = λ k h. sym (r.targets k h) ∙ s.targets k h });
      }

  -- a round's classes, by the classes before it
  pub refine-at : (p : List ℕ) (i : ℕ) → i < m.states → class_of (refine m p) i ≡ leader (same_row m p) i
  refine-at p i h = leaders-at (same_row m p) (row-likeness p) m.states i h

  pub refine-to : (p : List ℕ) (i j : ℕ) → i < m.states → j < m.states → class_of (refine m p) i ≡ class_of (refine m p) j → RowsAgree p i j
  refine-to p i j a b e = row-to p i j (leaders-to (same_row m p) (row-likeness p) m.states i j a b e)

  pub refine-of : (p : List ℕ) (i j : ℕ) → i < m.states → j < m.states → RowsAgree p i j → class_of (refine m p) i ≡ class_of (refine m p) j
  refine-of p i j a b r = leaders-same (same_row m p) (row-likeness p) m.states i j a b (row_of p i j r)

  pub refine-le : (p : List ℕ) (i : ℕ) → i < m.states → class_of (refine m p) i ≤ i
  refine-le p i h = rw (refine-at p i h) (leader-le (same_row m p) (row-likeness p) i)

  -- the class of a state is a state of that class
  pub refine-leads : (p : List ℕ) (i : ℕ) → i < m.states → class_of (refine m p) (class_of (refine m p) i) ≡ class_of (refine m p) i
  refine-leads p i h =
      let e = refine-at p i h in
      ap (class_of (refine m p)) e
      ∙ refine-at p (leader (same_row m p) i) (let a = leader-le (same_row m p) (row-likeness p) i in omega arith)
      ∙ leader-leads (same_row m p) (row-likeness p) i
      ∙ sym e

  -- the first state of a class stays the first of its class
  first-stays : (p : List ℕ) (j : ℕ) → j < m.states → is_first (refine m p) j ≡ true → is_first (refine m (refine m p)) j ≡ true
  first-stays p j h e =
      let q : List ℕ = refine m p in
      let l : ℕ = class_of (refine m q) j in
      let a : l ≤ j = refine-le q j h in
      let b : class_of q l ≡ class_of q j = (refine-to q l j (omega arith) h (refine-leads q j h)).classed in
      let c : class_of q l ≤ l = refine-le p l (omega arith) in
      let d : class_of q j ≡ j = eqb-true (class_of q j) j e in
      eq-eqb l j (omega arith)

  -- with no new first state nothing changes
  no-new : (p : List ℕ) → ((j : ℕ) → j < m.states → is_first (refine m (refine m p)) j ≡ true → is_first (refine m p) j ≡ true)
      → refine m (refine m p) ≡ refine m p
  no-new p h = ext_get_or 0 (refine m q) q (tabulate-length (leader (same_row m q)) m.states ∙ sym (tabulate-length (leader (same_row m p)) m.states)) at
    where
      q : List ℕ
      q = refine m p

      at : (i : ℕ) → i < length (refine m q) → class_of (refine m q) i ≡ class_of q i
      at i a =
          let b : i < m.states = omega (arith, tabulate-length (leader (same_row m q)) m.states) in
          let l : ℕ = class_of (refine m q) i in
          let c : l ≤ i = refine-le q i b in
          let d : class_of (refine m q) l ≡ l = refine-leads q i b in
          let e : class_of q l ≡ l = eqb-true (class_of q l) l (h l (omega arith) (eq-eqb (class_of (refine m q) l) l d)) in
          sym e ∙ (refine-to q l i (omega arith) b d).classed

  -- how many first states a list has
  abbrev firsts : List ℕ → ℕ
  firsts p = count (is_first p) m.states

  -- a round changes nothing, or there are more first states after it
  grows : (p : List ℕ) → (refine m (refine m p) ≡ refine m p) ⊎ (firsts (refine m p) < firsts (refine m (refine m p)))
  grows p = go (count-grows (is_first (refine m p)) (is_first (refine m (refine m p))) m.states (first-stays p))
    where
      go : (firsts (refine m p) < firsts (refine m (refine m p)))
          ⊎ ((firsts (refine m p) ≤ firsts (refine m (refine m p))) × ((j : ℕ) → j < m.states → is_first (refine m (refine m p)) j ≡ true
          → is_first (refine m p) j ≡ true))
          → (refine m (refine m p) ≡ refine m p) ⊎ (firsts (refine m p) < firsts (refine m (refine m p)))
      go (inl h) = inr h
      go (inr h) = inl (no-new p h.1)

  -- after s + 1 rounds nothing changes, or there are over s first states
  settles : 0 < m.states → (s : ℕ) → (refined m (suc (suc s)) ≡ refined m (suc s)) ⊎ (s < firsts (refined m (suc s)))
  unfolding refined
  settles h zero =
      let q : List ℕ = refine m (refined m zero) in
      let a : class_of q 0 ≤ 0 = refine-le (refined m zero) 0 h in
      let b : is_first q 0 ≡ true = eq-eqb (class_of q 0) 0 (omega arith) in
      inr (omega (arith, count_past (is_first q) 0 m.states h b))
  settles h (suc s) = go (settles h s) (grows (refined m s))
    where
      go : (refined m (suc (suc s)) ≡ refined m (suc s)) ⊎ (s < firsts (refined m (suc s)))
          → (refined m (suc (suc s)) ≡ refined m (suc s)) ⊎ (firsts (refined m (suc s)) < firsts (refined m (suc (suc s))))
          → (refined m (suc (suc (suc s))) ≡ refined m (suc (suc s))) ⊎ (suc s < firsts (refined m (suc (suc s))))
      go (inl e) g = inl (ap (refine m) e)
      go (inr a) (inl e) = inl (ap (refine m) e)
      go (inr a) (inr b) = inr (omega arith)

  -- after as many rounds as there are states nothing changes
  settled_at : (n : ℕ) → 0 < n → n ≡ m.states → refined m (suc n) ≡ refined m n
  unfolding refined
  settled_at zero h e = absurd (omega arith)
  settled_at (suc s) h e = go (settles (omega arith) s) (grows (refined m s))
    where
      go : (refined m (suc (suc s)) ≡ refined m (suc s)) ⊎ (s < firsts (refined m (suc s)))
          → (refined m (suc (suc s)) ≡ refined m (suc s)) ⊎ (firsts (refined m (suc s)) < firsts (refined m (suc (suc s))))
          → refined m (suc (suc s)) ≡ refined m (suc s)
      go (inl a) g = a
      go (inr a) (inl b) = b
      go (inr a) (inr b) = absurd (omega (arith, count_fits (is_first (refined m (suc (suc s)))) m.states))

  pub settled : 0 < m.states → refine m (blocks m) ≡ blocks m
  unfolding refined
  settled h = settled_at m.states h refl
