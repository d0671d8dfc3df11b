-- The laws, as types: what holds of every formed machine. proofs/Theorems.antt proves each.
use Rattle.std.specs.Prelude.{ℕ, ◌<◌, ◌≡◌, ◌↔◌, true, List}
use Rattle.std.proofs.Math.Option.{some, none}
use Rattle.theory_minimal.specs.Machine.{Machine, Formed, Sequence, signal_after, Alike, Reachable}
use Rattle.theory_minimal.specs.Proposal.{class_of, class_count, small, Fits, ByFirstStates, SameButNumbers}
use Rattle.theory_minimal.specs.Refine.{refine, blocks, classes}
use Rattle.theory_minimal.specs.Test.{fits, proposed}

-- proposals
pub record ProposalLaw (m : Machine) (p : List ℕ) : Type 0 where
  -- the test accepts exactly those that fit
  pub accepts-fitting : fits m p ≡ true → Fits m p
  pub fitting-accepted : Fits m p → fits m p ≡ true
  -- the smaller machine of one that fits is formed, and after every sequence its signal is the large machine's
  pub small-formed : Fits m p → Formed (small m p)
  pub small-agrees : Fits m p → (w : List ℕ) → Sequence m w → signal_after (small m p) 0 w ≡ signal_after m 0 w

-- classes of equivalent states
pub record ClassesLaw (m : Machine) : Type 0 where
  -- two states have one class exactly if they are equivalent
  pub alike : (i j : ℕ) → i < m.states → j < m.states → (class_of (classes m) i ≡ class_of (classes m) j) ↔ Alike m i j
  -- they are numbered by their first states
  pub numbered : ByFirstStates (classes m)
  -- one more round of refinement changes nothing
  pub settled : refine m (blocks m) ≡ blocks m

-- a state that behaves as state j does and is reachable
pub record ReachedAlike (m : Machine) (j : ℕ) : Type 0 where
  pub state : ℕ
  pub reached : Reachable m state
  pub alike : Alike m j state

-- the proposer
pub record ProposerLaw (m : Machine) : Type 0 where
  -- what it gives fits
  pub given-fits : (p : List ℕ) → proposed m ≡ some p → Fits m p
  -- its own proposal fits if any does
  pub own-fits : (p : List ℕ) → Fits m p → Fits m (classes m)
  -- it gives none exactly if no proposal fits
  pub none-fits : proposed m ≡ none → (p : List ℕ) → Fits m p → ⊥
  pub none-given : ((p : List ℕ) → Fits m p → ⊥) → proposed m ≡ none
  -- some proposal fits exactly if every state behaves as a reachable one does
  pub fits-if : ((j : ℕ) → j < m.states → ReachedAlike m j) → Fits m (classes m)
  pub only_if : (p : List ℕ) → Fits m p → (j : ℕ) → j < m.states → ReachedAlike m j
  -- so where all states are reachable it always gives one
  pub all-reachable : ((j : ℕ) → j < m.states → Reachable m j) → proposed m ≡ some (classes m)
  -- proposals that fit are the same but for the numbers of their classes, and the proposer's is the one by first states
  pub unique : (p q : List ℕ) → Fits m p → Fits m q → SameButNumbers m.states p q
  pub same_count : (p q : List ℕ) → Fits m p → Fits m q → class_count p ≡ class_count q
  pub first-states : (p : List ℕ) → Fits m p → ByFirstStates p → proposed m ≡ some p
