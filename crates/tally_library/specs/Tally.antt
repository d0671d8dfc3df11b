-- One value on a tally: the answer, and the records and refusal counts after it.
use Rattle.std.specs.Prelude.{ℕ, ◌+◌, ◌-◌, ◌≤◌, ◌≡◌, ◌↔◌, Bool, true, not, cond, ◌&&◌, List, ltb, leb, eqb, length, get_or, set}
use Rattle.base_numbers.specs.Numbers.{most_count, not_counted, tally_counts}
use Rattle.table_decode.specs.Tables.{table_refusal, table_of}
use Rattle.resolve_run.specs.declared.Resolution.{Resolution}
use Rattle.resolve_library.specs.Resolve.{refused, plain_of}
use Rattle.tally_library.specs.declared.Tally.{Tally}

-- the record of a signal that was never chosen
abbrev pub none : Tally
none = record { chosen = 0; used = 0; skipped = 0 }

-- the highest count
abbrev pub most : ℕ
most = most_count

-- a resolution that is not refused
abbrev pub accepted : Resolution → Bool
accepted r = eqb r.refusal 0

-- a record with one resolution more
abbrev pub plus : Tally → Resolution → Tally
plus x r = record { chosen = x.chosen + 1; used = x.used + r.used; skipped = x.skipped + r.skipped }

-- no count of a record passes the highest
unfoldable pub fits : Tally → Bool
fits x = leb x.chosen most && (leb x.used most && leb x.skipped most)

-- an accepted resolution is added to the record of its signal
unfoldable pub add_to : List Tally → Resolution → List Tally
add_to l r = cond (accepted r) (set l r.signal (plus (get_or l r.signal none) r)) l

-- a refused one is counted under its number: that of number 1 stands first
unfoldable pub count_to : List ℕ → Resolution → List ℕ
count_to c r = cond (accepted r) c (set c (r.refusal - 1) (get_or c (r.refusal - 1) 0 + 1))

-- how many records a table needs: one for each signal of a well-formed one
unfoldable pub needed : List ℕ → ℕ
needed t = cond (eqb (table_refusal t) 0) (length (table_of t).signals) 0

-- 20, whatever the value: not all 12 refusal counts, or not all the records that the table needs
unfoldable pub too_few : List ℕ → ℕ → ℕ → Bool
too_few t n m = cond (ltb m tally_counts) true (ltb n (needed t))

-- 20: a count that the resolution raises would pass the highest
unfoldable pub full : List Tally → List ℕ → Resolution → Bool
full l c r = cond (accepted r) (not (fits (plus (get_or l r.signal none) r))) (ltb most (get_or c (r.refusal - 1) 0 + 1))

-- the value v is refused with 20 on a tally of the records l and the refusal counts c
unfoldable pub gives20 : List ℕ → List Tally → List ℕ → List ℕ → Bool
gives20 t l c v = cond (too_few t (length l) (length c)) true (full l c (plain_of t v))

-- the answer: the plain resolver's, or 20
unfoldable pub answer_of : List ℕ → List Tally → List ℕ → List ℕ → Resolution
answer_of t l c v = cond (gives20 t l c v) (refused not_counted) (plain_of t v)

-- the records after it
unfoldable pub records_of : List ℕ → List Tally → List ℕ → List ℕ → List Tally
records_of t l c v = cond (gives20 t l c v) l (add_to l (plain_of t v))

-- the refusal counts after it
unfoldable pub counts_of : List ℕ → List Tally → List ℕ → List ℕ → List ℕ
counts_of t l c v = cond (gives20 t l c v) c (count_to c (plain_of t v))

-- a value was tallied: what is answered and what is left
abbrev pub Tallied : List ℕ → List Tally → List ℕ → List ℕ → Resolution → List Tally → List ℕ → Type 0
Tallied t l c v answer l' c' = (answer ≡ answer_of t l c v) × (l' ≡ records_of t l c v) × (c' ≡ counts_of t l c v)

-- what stays as it is, on any tally
pub record Stays (t : List ℕ) (l : List Tally) (c v : List ℕ) : Type 0 where
  -- the answer is 20 exactly for these reasons, and then everything stays
  pub twenty : ((answer_of t l c v).refusal ≡ 20) ↔ (gives20 t l c v ≡ true)
  pub twenty-records : gives20 t l c v ≡ true → records_of t l c v ≡ l
  pub twenty-counts : gives20 t l c v ≡ true → counts_of t l c v ≡ c
  -- all records but that of the signal chosen, so all past the table's signals too
  pub other-records : (i : ℕ) → (i ≡ (answer_of t l c v).signal → ⊥) → get_or (records_of t l c v) i none ≡ get_or l i none
  pub surplus-records : (i : ℕ) → length (table_of t).signals ≤ i → get_or (records_of t l c v) i none ≡ get_or l i none
  -- all records, if the value is refused
  pub refused-keeps : ((answer_of t l c v).refusal ≡ 0 → ⊥) → records_of t l c v ≡ l
  -- all counts but that of the number, so all past the twelfth too; and all counts, if the value is accepted
  pub other-counts : (i : ℕ) → (i + 1 ≡ (answer_of t l c v).refusal → ⊥) → get_or (counts_of t l c v) i 0 ≡ get_or c i 0
  pub surplus-counts : (i : ℕ) → tally_counts ≤ i → get_or (counts_of t l c v) i 0 ≡ get_or c i 0
  -- there are as many records and counts as before
  pub as-many-records : length (records_of t l c v) ≡ length l
  pub as-many-counts : length (counts_of t l c v) ≡ length c

-- what is proved
abbrev pub StaysLaw : Type 0
StaysLaw = (t : List ℕ) (l : List Tally) (c v : List ℕ) → Stays t l c v
