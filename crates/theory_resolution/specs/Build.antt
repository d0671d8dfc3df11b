-- The states that a table's symbols reach, numbered by breadth-first discovery, and their machine.
use Rattle.std.specs.Prelude.{ℕ, List, map, length}
use Rattle.theory_resolution.specs.Table.{Table}
use Rattle.theory_resolution.specs.Direct.{State, start, same_state}
use Rattle.theory_resolution.specs.Symbols.{symbols, step_at}
use Rattle.theory_resolution.specs.Machine.{Machine}
use Rattle.theory_resolution.specs.Discovery.{discover, targets, Reached, ReachedOver}

-- the states found after the turns of those numbered below n, symbols in order; the start has number 0.
-- There are over n reachable states exactly if this list is longer than n
abbrev pub discovered : Table → ℕ → List State
discovered t n = discover same_state (step_at t) (length (symbols t)) (start t.cats) n

-- some symbol sequence reaches the state
abbrev pub Reachable : Table → State → Type 0
Reachable t st = Reached (step_at t) (length (symbols t)) (start t.cats) st

-- the table has over n reachable states
abbrev pub ReachableOver : Table → ℕ → Type 0
ReachableOver t n = ReachedOver (step_at t) (length (symbols t)) (start t.cats) same_state n

-- the machine of a list of states: their pairs in order, each with the numbers of its targets
abbrev pub machine_of : Table → List State → Machine
machine_of t l = map (λ st. record { pair = st; row = targets same_state (step_at t) (length (symbols t)) l st }) l
