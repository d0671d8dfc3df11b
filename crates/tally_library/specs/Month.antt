-- Values counted from a tally of zeros on, and what each record and count holds after them, told from the values and the plain resolver alone.
use Rattle.std.specs.Prelude.{ℕ, zero, suc, ◌+◌, ◌≤◌, ◌<◌, ◌≡◌, Bool, true, not, cond, ◌&&◌, leb, eqb, length, get_or, replicate}
use mathlib.Core.List.{List, [], ◌∷◌, ◌++◌, map, foldl}
use Rattle.base_numbers.specs.Numbers.{not_counted}
use Rattle.resolve_run.specs.declared.Resolution.{Resolution}
use Rattle.resolve_library.specs.Resolve.{refused, plain_of}
use Rattle.tally_library.specs.declared.Tally.{Tally}
use Rattle.tally_library.specs.Tally.{none, most, accepted, fits, too_few, answer_of, records_of, counts_of}

-- what the caller lends: the records, and the refusal counts
pub record Lent : Type 0 where
  pub records : List Tally
  pub counts : List ℕ

-- n records and m counts, all zero
abbrev pub cleared : ℕ → ℕ → Lent
cleared n m = record { records = replicate n none; counts = replicate m 0 }

-- after one value, and after a list of values
abbrev pub after : List ℕ → Lent → List ℕ → Lent
after t x v = record { records = records_of t x.records x.counts v; counts = counts_of t x.records x.counts v }

abbrev pub fed : List ℕ → Lent → List (List ℕ) → Lent
fed t x vs = foldl (after t) x vs

-- the sum of a number over resolutions
unfoldable pub sum_of : (Resolution → ℕ) → List Resolution → ℕ
sum_of f [] = 0
sum_of f (r ∷ rs) = f r + sum_of f rs

-- a number of those accepted with signal s, 0 of all others
abbrev pub if_chosen : ℕ → Resolution → ℕ → ℕ
if_chosen s r n = cond (accepted r && eqb r.signal s) n 0

abbrev pub choice : ℕ → Resolution → ℕ
choice s r = if_chosen s r 1

abbrev pub used_for : ℕ → Resolution → ℕ
used_for s r = if_chosen s r r.used

abbrev pub skipped_for : ℕ → Resolution → ℕ
skipped_for s r = if_chosen s r r.skipped

-- how many accepted ones chose signal s, and what these used and skipped in all
abbrev pub record_in : ℕ → List Resolution → Tally
record_in s rs = record { chosen = sum_of (choice s) rs; used = sum_of (used_for s) rs; skipped = sum_of (skipped_for s) rs }

-- how many got the number k
abbrev pub refusal : ℕ → Resolution → ℕ
refusal k r = cond (eqb r.refusal k) 1 0

abbrev pub refused_in : ℕ → List Resolution → ℕ
refused_in k rs = sum_of (refusal k) rs

-- the plain resolver's answers, each value by itself
abbrev pub alone : List ℕ → List (List ℕ) → List Resolution
alone t vs = map (plain_of t) vs

-- no sum that the resolution r raises is over the highest count
unfoldable pub within : Resolution → List Resolution → Bool
within r rs = cond (accepted r) (fits (record_in r.signal rs)) (leb (refused_in r.refusal rs) most)

-- after the values ks were counted on n records and m counts, v is counted too: there are enough, and no sum passes with it
unfoldable pub takes : List ℕ → ℕ → ℕ → List (List ℕ) → List ℕ → Bool
takes t n m ks v = not (too_few t n m) && within (plain_of t v) (alone t (ks ++ v ∷ []))

abbrev pub more : List ℕ → ℕ → ℕ → List (List ℕ) → List ℕ → List (List ℕ)
more t n m ks v = cond (takes t n m ks v) (ks ++ v ∷ []) ks

-- the values of a run that are counted, in their order
abbrev pub counted : List ℕ → ℕ → ℕ → List (List ℕ) → List (List ℕ)
counted t n m vs = foldl (more t n m) [] vs

-- the sum of n numbers
unfoldable pub sum_to : (ℕ → ℕ) → ℕ → ℕ
sum_to f zero = 0
sum_to f (suc n) = sum_to f n + f n

abbrev pub chosen_at : List Tally → ℕ → ℕ
chosen_at l i = (get_or l i none).chosen

abbrev pub count_at : List ℕ → ℕ → ℕ
count_at c i = get_or c i 0

-- all times chosen and all refusals
abbrev pub total : Lent → ℕ
total x = sum_to (chosen_at x.records) (length x.records) + sum_to (count_at x.counts) (length x.counts)

-- the tally x after the values ks were counted on n records and m counts, cleared before
pub record Holds (t : List ℕ) (n m : ℕ) (ks : List (List ℕ)) (x : Lent) : Type 0 where
  pub all-records : length x.records ≡ n
  pub all-counts : length x.counts ≡ m
  -- each record, and the count of each number: nothing is refused with over 12, so those past the twelfth are still zero
  pub records : (s : ℕ) → s < n → get_or x.records s none ≡ record_in s (alone t ks)
  pub counts : (i : ℕ) → i < m → get_or x.counts i 0 ≡ refused_in (suc i) (alone t ks)
  -- all together are the number of values
  pub together : total x ≡ length ks
  -- no count passes the highest
  pub in-range : (s : ℕ) → fits (get_or x.records s none) ≡ true
  pub counts-in-range : (i : ℕ) → get_or x.counts i 0 ≤ most

-- the law over runs: for every table, and any number of values, records and counts
pub record Month (t : List ℕ) (n m : ℕ) (vs : List (List ℕ)) : Type 0 where
  -- what the tally holds is told by the values counted
  pub holds : Holds t n m (counted t n m vs) (fed t (cleared n m) vs)
  -- the next value is answered by the plain resolver exactly if it is counted, else with 20
  pub next : (v : List ℕ) → answer_of t (fed t (cleared n m) vs).records (fed t (cleared n m) vs).counts v
      ≡ cond (takes t n m (counted t n m vs) v) (plain_of t v) (refused not_counted)

abbrev pub MonthLaw : Type 0
MonthLaw = (t : List ℕ) (n m : ℕ) (vs : List (List ℕ)) → Month t n m vs
