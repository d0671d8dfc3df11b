-- A proposal gives each state a class; the smaller machine has the classes as its states.
use Rattle.std.specs.Prelude.{ℕ, suc, ◌<◌, ◌≡◌, ◌↔◌, Bool, List, eqb, get_or, length}
use Rattle.base_lists.specs.Search.{seek, highest}
use Rattle.theory_minimal.specs.Machine.{Machine, Alike, Reachable}

-- the class of state j
abbrev pub class_of : List ℕ → ℕ → ℕ
class_of p j = get_or p j 0

-- state j has class c
abbrev pub has_class : List ℕ → ℕ → ℕ → Bool
has_class p c j = eqb (class_of p j) c

-- the first state of class c
abbrev pub first_of : List ℕ → ℕ → ℕ
first_of p c = seek (has_class p c) 0 (length p)

-- the number of classes: one more than the highest
abbrev pub class_count : List ℕ → ℕ
class_count p = suc (highest (class_of p) (length p))

-- the smaller machine: a class has the signal of its first state, and leads to the classes of that state's targets
abbrev pub small : Machine → List ℕ → Machine
small m p =
    record {
      states = class_count p;
      symbols = m.symbols;
      signal = λ c. m.signal (first_of p c);
      target = λ c k. class_of p (m.target (first_of p c) k);
    }

-- some reachable state has class c
pub record ReachedClass (m : Machine) (p : List ℕ) (c : ℕ) : Type 0 where
  pub state : ℕ
  pub reached : Reachable m state
  pub classed : class_of p state ≡ c

-- a proposal that fits the machine
pub record Fits (m : Machine) (p : List ℕ) : Type 0 where
  -- one class for each state
  pub sized : length p ≡ m.states
  -- state 0 has class 0
  pub starts : class_of p 0 ≡ 0
  -- two states of one class have the same signal
  pub one-signal : (i j : ℕ) → i < m.states → j < m.states → class_of p i ≡ class_of p j → m.signal i ≡ m.signal j
  -- and for each symbol their targets are of one class
  pub one-row : (i j k : ℕ) → i < m.states → j < m.states → k < m.symbols → class_of p i ≡ class_of p j → class_of p (m.target i k) ≡ class_of p (m.target j k)
  -- each class has a state that some sequence leads to
  pub reachable : (c : ℕ) → c < class_count p → ReachedClass m p c
  -- two classes are never equivalent, as states of the smaller machine
  pub apart : (c d : ℕ) → c < class_count p → d < class_count p → Alike (small m p) c d → c ≡ d

-- classes numbered by their first states: every class below that of a state has an earlier state
pub record Earlier (p : List ℕ) (i c : ℕ) : Type 0 where
  pub state : ℕ
  pub earlier : state < i
  pub classed : class_of p state ≡ c

abbrev pub ByFirstStates : List ℕ → Type 0
ByFirstStates p = (i c : ℕ) → i < length p → c < class_of p i → Earlier p i c

-- two proposals are the same but for the numbers of their classes
abbrev pub SameButNumbers : ℕ → List ℕ → List ℕ → Type 0
SameButNumbers n p q = (i j : ℕ) → i < n → j < n → (class_of p i ≡ class_of p j) ↔ (class_of q i ≡ class_of q j)
