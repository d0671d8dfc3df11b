-- What lists of URNs and whole tables weigh, where w says what one URN weighs.
use Rattle.std.specs.Prelude.{ℕ, ◌+◌, List, [], ◌∷◌}
use Rattle.theory_resolution.specs.Table.{Urn}

-- a list of URNs
abbrev pub weight : (Urn → ℕ) → List Urn → ℕ
weight w [] = 0
weight w (u ∷ us) = w u + weight w us

-- some signals
abbrev pub weight_all : (Urn → ℕ) → List (List Urn) → ℕ
weight_all w [] = 0
weight_all w (sig ∷ sigs) = weight w sig + weight_all w sigs
