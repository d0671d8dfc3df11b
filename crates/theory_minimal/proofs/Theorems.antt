-- The laws of specs/Laws.antt, proved.
use Prim.Native.Nat.{ℕ, ◌≤◌, ◌<◌}
use mathlib.Core.Path.{◌≡◌, refl, sym, ap, ◌∙◌}
use mathlib.Core.Bool.{Bool, true, false, cond}
use mathlib.Core.Option.{Option, some, none}
use mathlib.Core.List.{List}
use lib.ListN.{length}
use native.Mathlib.Omega.{arith}
use native.Mathlib.Decide.{dec_lt}
use Rattle.base_lists.proofs.Search.{Highest, highest-reached}
use Rattle.theory_minimal.specs.Machine.{Machine, Formed}
use Rattle.theory_minimal.specs.Proposal.{class_of, first_of, class_count, ReachedClass, Fits, ByFirstStates, SameButNumbers}
use Rattle.theory_minimal.specs.Refine.{classes}
use Rattle.theory_minimal.specs.Test.{all_reached, proposed}
use Rattle.theory_minimal.specs.Laws.{ProposalLaw, ClassesLaw, ReachedAlike, ProposerLaw}
use Rattle.theory_minimal.proofs.Refine.{settled}
use Rattle.theory_minimal.proofs.Classes.{classes-length, class-alike, alike-class, classes-numbered, first-class, same-proposal}
use Rattle.theory_minimal.proofs.Reach.{values-fit, reached-state, all-reached-to, all-reached-of}
use Rattle.theory_minimal.proofs.Fits.{class-below, first_found, fits-from, fits-alike, alike-fits, small-right, small-formed, test-to, test_of}

pub proposal-law : (m : Machine) → Formed m → (p : List ℕ) → ProposalLaw m p
proposal-law m formed p =
    record {
      accepts-fitting = test-to m formed p;
      fitting-accepted = test_of m formed p;
      small-formed = small-formed m formed p;
      small-agrees = small-right m formed p;
    }

pub classes-law : (m : Machine) → Formed m → ClassesLaw m
classes-law m formed =
    record {
      alike = λ i j a b. (class-alike m formed i j a b, alike-class m formed i j a b);
      numbered = classes-numbered m formed;
      settled = settled m formed.some-state;
    }

module _ (m : Machine) (formed : Formed m) where
  starts : class_of (classes m) 0 ≡ 0
  starts = first-class (classes m) (let a = formed.some-state in omega (arith, classes-length m formed)) (classes-numbered m formed)

  -- the classes of equal behaviour fit if all are reachable
  classes-fit : ((c : ℕ) → c < class_count (classes m) → ReachedClass m (classes m) c) → Fits m (classes m)
  classes-fit = fits-from m formed (classes m) (classes-length m formed) starts (class-alike m formed) (alike-class m formed)

  -- every class up to the highest has a state
  occurs : (c : ℕ) → c < class_count (classes m) → (i : ℕ) × (i < m.states) × (class_of (classes m) i ≡ c)
  occurs c h = go (dec_lt c (class_of (classes m) t.place))
    where
      t : Highest (class_of (classes m)) (length (classes m))
      t = highest-reached (class_of (classes m)) (length (classes m)) (let a = formed.some-state in omega (arith, classes-length m formed))

      go : Dec (c < class_of (classes m) t.place) → (i : ℕ) × (i < m.states) × (class_of (classes m) i ≡ c)
      go (yes a) =
          let r = classes-numbered m formed t.place c t.below a in
          (r.state, omega (arith, r.earlier, t.below, classes-length m formed), r.classed)
      go (no a) = (t.place, omega (arith, t.below, classes-length m formed), omega (arith, t.value))

  alike-reached : ((j : ℕ) → j < m.states → ReachedAlike m j) → (c : ℕ) → c < class_count (classes m) → ReachedClass m (classes m) c
  alike-reached f c h =
      let i = occurs c h in
      let r = f i.0 i.1 in
      record {
        state = r.state;
        reached = r.reached;
        classed = sym (alike-class m formed i.0 r.state i.1 (reached-state m formed r.state r.reached) r.alike) ∙ i.2;
      }

  fits-reached : (p : List ℕ) → Fits m p → (j : ℕ) → j < m.states → ReachedAlike m j
  fits-reached p f j h =
      let z = f.sized in
      let r = f.reachable (class_of p j) (class-below p j (omega arith)) in
      record {
        state = r.state;
        reached = r.reached;
        alike = fits-alike m formed p f j r.state h (reached-state m formed r.state r.reached) (sym r.classed);
      }

  gives : ((j : ℕ) → j < m.states → ReachedAlike m j) → proposed m ≡ some (classes m)
  gives f = rw (all-reached-of m formed (classes m) (alike-reached f))

  -- what the proposer gives
  given : (b : Bool) → all_reached m (classes m) ≡ b → (p : List ℕ) → ◌≡◌ {A = Option (List ℕ)} (cond b (some (classes m)) none) (some p) → Fits m p
  given true e p q =
      let i : classes m ≡ p = cc in
      rw (← i) (classes-fit (all-reached-to m formed (classes m) e))
  given false e p q = let z : ◌≡◌ {A = ℕ} 0 1 = cc in absurd (omega arith)

  absent : (b : Bool) → all_reached m (classes m) ≡ b → ((p : List ℕ) → Fits m p → ⊥) → ◌≡◌ {A = Option (List ℕ)} (cond b (some (classes m)) none) none
  absent true e h = absurd (h (classes m) (classes-fit (all-reached-to m formed (classes m) e)))
  absent false e h = refl

  same-classes : (p q : List ℕ) → Fits m p → Fits m q → SameButNumbers m.states p q
  same-classes p q f g i j a b =
      (λ e. alike-fits m formed q g i j a b (fits-alike m formed p f i j a b e), λ e. alike-fits m formed p f i j a b (fits-alike m formed q g i j a b e))

  -- a proposal that fits has no more classes than another
  no_more : (p q : List ℕ) → Fits m p → Fits m q → class_count p ≤ class_count q
  no_more p q f g = values-fit of (class_count p) (class_count q) below once
    where
      of : ℕ → ℕ
      of c = class_of q (first_of p c)

      first : (c : ℕ) → c < class_count p → (first_of p c < m.states) × (class_of p (first_of p c) ≡ c)
      first c h =
          let r = f.reachable c h in
          let z = f.sized in
          let a = reached-state m formed r.state r.reached in
          let b = first_found p r.state (omega arith) in
          let d : (first_of p c < length p) × (class_of p (first_of p c) ≡ c) = rw r.classed at b in
          (omega (arith, d.0), d.1)

      below : (c : ℕ) → c < class_count p → of c < class_count q
      below c h = let z = g.sized in class-below q (first_of p c) (omega (arith, (first c h).0))

      once : (c d : ℕ) → c < class_count p → d < class_count p → of c ≡ of d → c ≡ d
      once c d a b e =
          let x = first c a in
          let y = first d b in
          sym x.1 ∙ (same-classes p q f g (first_of p c) (first_of p d) x.0 y.0).1 e ∙ y.1

  the-first : (p : List ℕ) → Fits m p → ByFirstStates p → proposed m ≡ some p
  the-first p f n =
      gives (fits-reached p f)
      ∙ ap some
      (same-proposal m.states (classes m) p (classes-length m formed) f.sized
      (same-classes (classes m) p (classes-fit (alike-reached (fits-reached p f))) f) (classes-numbered m formed) n)

  pub proposer-law : ProposerLaw m
  proposer-law =
      record {
        given-fits = λ p e. given (all_reached m (classes m)) refl p e;
        own-fits = λ p f. classes-fit (alike-reached (fits-reached p f));
        none-fits = λ e p f.
            let g = gives (fits-reached p f) in
            let z : ◌≡◌ {A = ℕ} 0 1 = cc in omega arith;
        none-given = absent (all_reached m (classes m)) refl;
        fits-if = λ f. classes-fit (alike-reached f);
        only_if = fits-reached;
        all-reachable = λ f. gives (λ j h. record { state = j; reached = f j h; alike = λ w l. refl });
        unique = same-classes;
        same_count = λ p q f g. omega (arith, no_more p q f g, no_more q p g f);
        first-states = the-first;
      }
