-- The candidates that a step tries, over the same arrays.
use Rattle.std.specs.Prelude.{ℕ, zero, suc, ◌-◌, Bool, cond, List, Option, Some, None, eqb, leb}
use Rattle.base_numbers.specs.Numbers.{most_categories, most_tries}
use Rattle.node_step.specs.declared.State.{State}
use Rattle.node_step.specs.declared.Hit.{Hit}
use Rattle.node_step.specs.Step.{parent_of, hit_numbers}

-- how many nodes lie from d up to the root, d counted, at most n
unfoldable pub depth : List ℕ → ℕ → ℕ → ℕ
depth ps zero d = 0
depth ps (suc n) d = cond (eqb d 0) 0 (suc (depth ps n (parent_of ps d)))

-- the candidates from d to where a signal was found, both counted
abbrev pub tries_to : List ℕ → ℕ → Option Hit → ℕ
tries_to ps d None = 0
tries_to ps d (Some h) = suc (depth ps most_tries d) - depth ps most_tries h.node

-- the tries of one step in category c, at the node or root d, which is said whole or with more parts under it
unfoldable pub tries_numbers : List ℕ → List ℕ → ℕ → State → ℕ → ℕ → Bool → ℕ
tries_numbers rows ps n st c d whole = cond (leb most_categories c) 0 (tries_to ps d (hit_numbers rows ps n st c d whole))
