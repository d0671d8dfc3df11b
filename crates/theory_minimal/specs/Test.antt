-- The test of a proposal, and the proposer.
use Rattle.std.specs.Prelude.{ℕ, Bool, cond, ◌&&◌, List, eqb, ltb, get_or, length}
use Rattle.std.proofs.Math.Option.{Option, some, none}
use Rattle.base_lists.specs.Search.{seek}
use Rattle.base_lists.specs.Lists.{same_list, all_below}
use Rattle.theory_resolution.specs.Discovery.{discover}
use Rattle.theory_minimal.specs.Machine.{Machine}
use Rattle.theory_minimal.specs.Proposal.{class_of, class_count}
use Rattle.theory_minimal.specs.Refine.{leaders, same_class, blocks, classes}

-- the states that state 0 leads to, as they are found
abbrev pub found_states : Machine → List ℕ
found_states m = discover eqb m.target m.symbols 0 m.states

-- the state found with number i has class c
abbrev pub found_class : List ℕ → List ℕ → ℕ → ℕ → Bool
found_class p l c i = eqb (class_of p (get_or l i 0)) c

-- one of the states in the list has class c
abbrev pub class_found : List ℕ → List ℕ → ℕ → Bool
class_found p l c = ltb (seek (found_class p l c) 0 (length l)) (length l)

-- each class has one of the states that are found
abbrev pub all_reached : Machine → List ℕ → Bool
all_reached m p = all_below (class_count p) (class_found p (found_states m))

-- the test of a proposal: its length, the class of state 0, the same first state for each state as in the partition into
-- equivalent ones, and a reachable state in each class
abbrev pub fits : Machine → List ℕ → Bool
fits m p =
    eqb (length p) m.states
    && (eqb (class_of p 0) 0
    && (same_list eqb (leaders (same_class p) m.states) (blocks m)
    && all_reached m p))

-- the proposer: the classes of equivalent states, if each has a reachable one
abbrev pub proposed : Machine → Option (List ℕ)
proposed m = cond (all_reached m (classes m)) (some (classes m)) none
