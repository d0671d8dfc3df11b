-- A ring table by priority and a lamp table by source.
use Rattle.std.specs.Prelude.{ℕ, ◌≡◌, List, [], ◌∷◌, length}
use Rattle.std.proofs.Math.Option.{Option, none, some}
use Rattle.theory_resolution.specs.Table.{Urn, urn, Table}
use Rattle.theory_resolution.specs.Direct.{direct, used_of}
use Rattle.theory_pairs.specs.Pairs.{pairs, pair_number, ring_alone, lamp_alone}

-- the URN with the one part x in category c
abbrev said : ℕ → ℕ → Urn
said c x = urn c ((x ∷ []) ∷ [])

-- default, low, high
abbrev pub Ring : Table
Ring = record { cats = 1; signals = [] ∷ (said 0 108 ∷ []) ∷ (said 0 104 ∷ []) ∷ [] }

-- default, external, internal
abbrev pub Lamp : Table
Lamp = record { cats = 1; signals = [] ∷ (said 0 101 ∷ []) ∷ (said 0 105 ∷ []) ∷ [] }

-- low, one that both skip, internal
abbrev pub given : List (Option Urn)
given = some (said 0 108) ∷ none ∷ some (said 1 105) ∷ []

-- nine pairs; each table alone, and both at once
pub record PairExample : Type 0 where
  pub all-pairs : length (pairs Ring Lamp).signals ≡ 9
  pub ring : (ring_alone Ring given).signal ≡ 1
  pub lamp : (lamp_alone Ring Lamp given).signal ≡ 2
  pub number : pair_number Lamp 1 2 ≡ 5
  pub pair : (direct (pairs Ring Lamp) (used_of given)).signal ≡ 5
