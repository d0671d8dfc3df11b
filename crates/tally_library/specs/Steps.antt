-- What the functions within promise: a value is judged and a refusal counted first, then an accepted one is added.
use Rattle.std.specs.Prelude.{ℕ, ◌+◌, ◌-◌, Bool, false, cond, List, ltb, length, get_or, set, Option, Some, None}
use Rattle.base_numbers.specs.Numbers.{not_counted}
use Rattle.resolve_run.specs.declared.Resolution.{Resolution}
use Rattle.resolve_library.specs.Resolve.{refused, plain_of}
use Rattle.tally_library.specs.declared.Tally.{Tally}
use Rattle.tally_library.specs.Tally.{none, most, accepted, plus, fits, count_to, too_few}

-- the count of a refused resolution would pass the highest
unfoldable pub full_count : List ℕ → Resolution → Bool
full_count c r = cond (accepted r) false (ltb most (get_or c (r.refusal - 1) 0 + 1))

-- a resolution with its refusal counted: itself, or 20
unfoldable pub judged_of : List ℕ → ℕ → List ℕ → List ℕ → Resolution
judged_of t n c v = cond (too_few t n (length c)) (refused not_counted) (cond (full_count c (plain_of t v)) (refused not_counted) (plain_of t v))

unfoldable pub judged_counts : List ℕ → ℕ → List ℕ → List ℕ → List ℕ
judged_counts t n c v = cond (too_few t n (length c)) c (cond (full_count c (plain_of t v)) c (count_to c (plain_of t v)))

-- the place of a resolution's record among n: past the last if it is refused
unfoldable pub place_of : Resolution → ℕ → ℕ
place_of r n = cond (accepted r) r.signal n

-- a record with a resolution more, unless a count would pass the highest
abbrev pub added_of : Tally → Resolution → Option Tally
added_of x r = cond (fits (plus x r)) (Some (plus x r)) None

-- the answer, and the record after it: 20, and the same record, if a count would pass the highest
abbrev pub told_of : Tally → Resolution → Resolution
told_of x r = cond (fits (plus x r)) r (refused not_counted)

abbrev pub kept_of : Tally → Resolution → Tally
kept_of x r = cond (fits (plus x r)) (plus x r) x

-- the answer, and the records after it, where a resolution has its place s
unfoldable pub answer_at : List Tally → ℕ → Resolution → Resolution
answer_at l s r = cond (ltb s (length l)) (told_of (get_or l s none) r) r

unfoldable pub records_at : List Tally → ℕ → Resolution → List Tally
records_at l s r = set l s (kept_of (get_or l s none) r)
