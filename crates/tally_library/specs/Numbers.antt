-- Which numbers a value on a tally is answered with, and how many refusal counts it asks for.
use Rattle.std.specs.Prelude.{ℕ, ◌≤◌, ◌≡◌, ◌⊎◌, List, length, replicate}
use Rattle.resolve_library.specs.Resolve.{refused, plain_of}
use Rattle.tally_library.specs.declared.Tally.{Tally}
use Rattle.tally_library.specs.Tally.{none, needed, answer_of}

-- the plain resolver's numbers, 0 and 1 to 12, and 20
abbrev pub TallyNumber : ℕ → Type 0
TallyNumber n = (n ≤ 12) ⊎ (n ≡ 20)

-- no other numbers are given, and each of these is
abbrev pub TallyNumbers : Type 0
TallyNumbers = (t : List ℕ) (l : List Tally) (c v : List ℕ) → TallyNumber (answer_of t l c v).refusal

abbrev pub EachTallyNumber : Type 0
EachTallyNumber = (n : ℕ) → TallyNumber n → (t : List ℕ) × (l : List Tally) × (c : List ℕ) × (v : List ℕ) × ((answer_of t l c v).refusal ≡ n)

-- 12 refusal counts are asked for, no fewer and no more
pub record TwelveCounts : Type 0 where
  -- with 11 or fewer every value gets 20
  pub eleven : (t : List ℕ) (l : List Tally) (c v : List ℕ) → length c ≤ 11 → answer_of t l c v ≡ refused 20
  -- with 12, and a record for each signal of a well-formed table, all cleared, every value gets the plain resolver's answer
  pub twelve : (t v : List ℕ) → answer_of t (replicate (needed t) none) (replicate 12 0) v ≡ plain_of t v
