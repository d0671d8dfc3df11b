-- A class's bytes by its first state.
use Rattle.std.specs.Prelude.{ℕ, List, ◌∷◌}
use Rattle.base_lists.specs.Lists.{tabulate}
use Rattle.theory_minimal.specs.Machine.{Machine}
use Rattle.theory_minimal.specs.Proposal.{class_of}

-- the class of the target of state f for symbol s
abbrev pub target_class : Machine → List ℕ → ℕ → ℕ → ℕ
target_class m p f s = class_of p (m.target f s)

-- the signal of state f and the classes of its targets
abbrev pub row_of : Machine → List ℕ → ℕ → List ℕ
row_of m p f = m.signal f ∷ tabulate (target_class m p f) m.symbols
