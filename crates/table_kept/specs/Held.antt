-- What the lists of the search hold.
use Rattle.std.specs.Prelude.{ℕ, ◌-◌, List, ◌++◌, eqb, get_or, take, drop, length, replicate}
use Rattle.base_numbers.specs.Numbers.{most_signals}
use Rattle.theory_kept.specs.Way.{symbol_to, state_before}
use Rattle.table_kept.specs.declared.found.Found.{Found}
use Rattle.table_kept.specs.declared.passed.Way.{Way}

-- the signals found, in their order
abbrev pub signals_in : Found → List ℕ
signals_in h = take h.count h.signals

-- the nodes at the end of the array
abbrev pub nodes_in : Way → List ℕ
nodes_in w = drop (most_signals - w.len) w.nodes

-- a list with zeros after it, 32 numbers in all
abbrev pub padded : List ℕ → List ℕ
padded l = l ++ replicate (most_signals - length l) 0

module _ (next : ℕ → ℕ → ℕ) (nodes : ℕ) (l : List ℕ) where
  -- the number of the signal before the one with number at, and the index of the node that leads from it
  abbrev pub before_in : ℕ → ℕ
  before_in at = state_before eqb next nodes 0 l (get_or l at 0)

  abbrev pub node_back : ℕ → ℕ
  node_back at = symbol_to eqb next nodes 0 (get_or l (before_in at) 0) (get_or l at 0)
