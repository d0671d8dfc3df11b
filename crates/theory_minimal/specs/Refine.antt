-- The partition of the states into classes of equivalent ones, by refinement: states are told apart by their signals, then by the
-- classes of their targets, as many times as there are states.
use Rattle.std.specs.Prelude.{ℕ, zero, suc, Bool, ◌&&◌, List, eqb}
use Rattle.base_lists.specs.Search.{seek, count}
use Rattle.base_lists.specs.Lists.{tabulate, all_below}
use Rattle.theory_minimal.specs.Machine.{Machine}
use Rattle.theory_minimal.specs.Proposal.{class_of}

-- the first number that is like i
abbrev pub leader : (ℕ → ℕ → Bool) → ℕ → ℕ
leader f i = seek (f i) 0 i

-- the leaders of the numbers below n
abbrev pub leaders : (ℕ → ℕ → Bool) → ℕ → List ℕ
leaders f n = tabulate (leader f) n

-- states i and j have one class
abbrev pub same_class : List ℕ → ℕ → ℕ → Bool
same_class p i j = eqb (class_of p i) (class_of p j)

-- their targets for symbol k do
abbrev pub same_target : Machine → List ℕ → ℕ → ℕ → ℕ → Bool
same_target m p i j k = same_class p (m.target i k) (m.target j k)

-- they and their targets for each symbol do
abbrev pub same_row : Machine → List ℕ → ℕ → ℕ → Bool
same_row m p i j = same_class p i j && all_below m.symbols (same_target m p i j)

-- one round: each state's class is now the first state that the old classes do not tell from it
abbrev pub refine : Machine → List ℕ → List ℕ
refine m p = leaders (same_row m p) m.states

-- the classes after r rounds
unfoldable pub refined : Machine → ℕ → List ℕ
refined m zero = tabulate m.signal m.states
refined m (suc r) = refine m (refined m r)

-- the partition into equivalent states: for each state the first one of its block
abbrev pub blocks : Machine → List ℕ
blocks m = refined m m.states

-- state j is the first of its block
abbrev pub is_first : List ℕ → ℕ → Bool
is_first b j = eqb (class_of b j) j

-- the number of the block of state i: how many first states there are before its own
abbrev pub block_number : List ℕ → ℕ → ℕ
block_number b i = count (is_first b) (class_of b i)

-- the classes of equivalent states, numbered by their first ones: the states of the minimal machine
abbrev pub classes : Machine → List ℕ
classes m = tabulate (block_number (blocks m)) m.states
