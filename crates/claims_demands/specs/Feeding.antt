-- What is claimed of feeding, for one value and over every list of values.
use Rattle.std.specs.Prelude.{ℕ, ◌+◌, ◌≤◌, min, ◌≡◌, true, false, List, [], ◌∷◌, ◌++◌, length, take}
use Prim.Native.Char.{code}
use Rattle.base_numbers.specs.Numbers.{most_categories, most_entries, most_value_bytes, most_values}
use Rattle.value_reader.specs.Value.{refusal_of, uris_of}
use Rattle.theory_resolution.specs.Direct.{used_of, direct}
use Rattle.resolve_record.specs.Record.{fresh, carried_as, carried_fits, counted}
use Rattle.resolve_record.specs.declared.Carried.{Carried}
use Rattle.table_decode.specs.Tables.{table_refusal, table_of}
use Rattle.resolve_run.specs.declared.Resolution.{Resolution}
use Rattle.resolve_library.specs.Resolve.{taken_as, answered, plain_of}
use Rattle.resolve_library.specs.Feed.{feed_of}

-- what one value does, by the number that it is answered with
pub record OneValue (t : List ℕ) (r : Carried) (v : List ℕ) : Type 0 where
  -- the number: the table's, then 28, then 19, then the value's
  pub of-table : (table_refusal t ≡ 0 → ⊥) → (feed_of t r v).answer.refusal ≡ table_refusal t
  pub of-record : table_refusal t ≡ 0 → carried_fits (table_of t) r ≡ false → (feed_of t r v).answer.refusal ≡ 28
  pub seventeenth : table_refusal t ≡ 0 → carried_fits (table_of t) r ≡ true → r.values ≡ most_values → (feed_of t r v).answer.refusal ≡ 19
  pub of-value : table_refusal t ≡ 0 → carried_fits (table_of t) r ≡ true → (r.values ≡ most_values → ⊥) → (feed_of t r v).answer.refusal ≡ refusal_of v
  -- accepted: the carried signal, and the value's own counts
  pub accepted : (feed_of t r v).answer.refusal ≡ 0 → (feed_of t r v).answer ≡ answered t (uris_of v) (feed_of t r v).carried.signal
  -- refused: signal 0 and counts 0
  pub zeros : ((feed_of t r v).answer.refusal ≡ 0 → ⊥) → (feed_of t r v).answer ≡ record { refusal = (feed_of t r v).answer.refusal; signal = 0; used = 0; skipped = 0 }
  -- refused with 1 to 3: the count of values alone changes
  pub only-counted : 1 ≤ (feed_of t r v).answer.refusal → (feed_of t r v).answer.refusal ≤ 3 → (feed_of t r v).carried ≡ counted r
  -- refused with any other number: nothing changes
  pub nothing : 4 ≤ (feed_of t r v).answer.refusal → (feed_of t r v).carried ≡ r

-- what is carried after all values, and the answers to them
abbrev pub fed_all : List ℕ → Carried → List (List ℕ) → Carried
fed_all t r [] = r
fed_all t r (v ∷ vs) = fed_all t (feed_of t r v).carried vs

abbrev pub answers_to : List ℕ → Carried → List (List ℕ) → List Resolution
answers_to t r [] = []
answers_to t r (v ∷ vs) = (feed_of t r v).answer ∷ answers_to t (feed_of t r v).carried vs

-- the URIs of all values in order; a refused value has none
abbrev pub all_uris : List (List ℕ) → List (List ℕ)
all_uris [] = []
all_uris (v ∷ vs) = uris_of v ++ all_uris vs

-- from a fresh record the end is direct resolution over the accepted ones among the first 16 values, in order
abbrev pub EndsDirect : List ℕ → Type 0
EndsDirect t = table_refusal t ≡ 0 → (vs : List (List ℕ))
    → fed_all t fresh vs ≡ carried_as (table_of t) (direct (table_of t) (used_of (taken_as t (all_uris (take most_values vs))))) (min most_values (length vs))

-- a fresh record is taken, and so is every record that feeding gives to one that was taken: none is refused with 28
abbrev pub NeverRefused : List ℕ → Type 0
NeverRefused t = table_refusal t ≡ 0
    → (carried_fits (table_of t) fresh ≡ true) ×
    ((r : Carried) → length r.status ≡ most_categories → carried_fits (table_of t) r ≡ true → (vs : List (List ℕ)) → carried_fits (table_of t) (fed_all t r vs) ≡ true)

-- one or more values with commas between them
abbrev pub joined : List ℕ → List (List ℕ) → List ℕ
joined v [] = v
joined v (w ∷ vs) = v ++ (code "," ∷ joined w vs)

abbrev pub AllAccepted : List (List ℕ) → Type 0
AllAccepted [] = Unit
AllAccepted (v ∷ vs) = (refusal_of v ≡ 0) × AllAccepted vs

-- the used and the skipped entries of all answers
abbrev pub all_used : List Resolution → ℕ
all_used [] = 0
all_used (a ∷ l) = a.used + all_used l

abbrev pub all_skipped : List Resolution → ℕ
all_skipped [] = 0
all_skipped (a ∷ l) = a.skipped + all_skipped l

-- 1 to 16 values, all accepted, that joined by commas have at most 4,096 bytes and 64 entries
abbrev pub Joinable : List ℕ → List (List ℕ) → Type 0
Joinable v vs = (length (v ∷ vs) ≤ most_values) × AllAccepted (v ∷ vs) × (length (joined v vs) ≤ most_value_bytes) × (length (all_uris (v ∷ vs)) ≤ most_entries)

-- what such values give joined is the signal at their end, and their counts in all
abbrev pub JoinedAlike : List ℕ → Type 0
JoinedAlike t = table_refusal t ≡ 0 → (v : List ℕ) (vs : List (List ℕ)) → Joinable v vs
    → plain_of t (joined v vs)
    ≡ record {
      refusal = 0;
      signal = (fed_all t fresh (v ∷ vs)).signal;
      used = all_used (answers_to t fresh (v ∷ vs));
      skipped = all_skipped (answers_to t fresh (v ∷ vs));
    }
