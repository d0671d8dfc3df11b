-- What is claimed of the definitions: the reading agrees with the grammar, each refusal number is given exactly where it
-- is due, entries lie where the grammar has them, and a value without CR reads as it did before lines were folded.
-- The proofs are in proofs/Agree.antt, proofs/EntryLaws.antt and proofs/Unfolded.antt.
-- Assumes nothing.
use Rattle.std.specs.Prelude.{◌≡◌, ◌↔◌, ◌⊎◌, Bool, not, List, [], ◌++◌, map, ℕ, zero, suc, ◌≤◌, ◌<◌, eqb, length}
use Prim.Native.Char.{code}
use Rattle.base_numbers.specs.Numbers.{most_entries, most_value_bytes}
use Rattle.value_cursor.specs.Reading.{unfit, spans, reading_of}
use Rattle.value_cursor.specs.Pass.{nowhere}
use Rattle.value_cursor.specs.declared.alert_param.Span.{Span}
use Rattle.value_reader.specs.Grammar.{Any, White, Blanks, Value, Before}
use Rattle.value_reader.specs.Value.{part_of, refusal_of, uris_of, entries_of, entry_of, span_of, entry_refusal_of}

-- s is a value with the URIs us exactly if it is read, and us are the parts that are read
abbrev pub Agrees : Type 0
Agrees =
    (s : List ℕ) (us : List (List ℕ))
    → Value White s us ↔ ((ps : List Span) × (reading_of s ≡ spans ps) × (map (part_of s) ps ≡ us))

-- no value has two readings: its URIs are determined by its bytes
abbrev pub OneReading : Type 0
OneReading = (s : List ℕ) (us vs : List (List ℕ)) → Value White s us → Value White s vs → us ≡ vs

-- bytes are not read exactly if they are no value
abbrev pub UnfitIsNoValue : Type 0
UnfitIsNoValue = (s : List ℕ) → reading_of s ≡ unfit ↔ ((us : List (List ℕ)) → Value White s us → ⊥)

-- what each refusal number of a value says, in the words of the grammar over white space W and the limits; 0 is accepted
abbrev pub Given : (List ℕ → Type 0) → List ℕ → ℕ → Type 0
Given W s zero = (length s ≤ most_value_bytes) × (us : List (List ℕ)) × Value W s us × (length us ≤ most_entries)
Given W s (suc zero) = most_value_bytes < length s
Given W s (suc (suc zero)) = (length s ≤ most_value_bytes) × ((us : List (List ℕ)) → Value W s us → ⊥)
Given W s (suc (suc (suc zero))) = (length s ≤ most_value_bytes) × (us : List (List ℕ)) × Value W s us × (most_entries < length us)
Given W s (suc (suc (suc (suc n)))) = ⊥

-- a number is the value's exactly if what it says holds
abbrev pub RefusedExactly : Type 0
RefusedExactly = (s : List ℕ) (n : ℕ) → refusal_of s ≡ n ↔ Given White s n

-- no other numbers are given, and each of these is
abbrev pub RefusalNumber : ℕ → Type 0
RefusalNumber n = n ≤ 3

abbrev pub RefusalNumbers : Type 0
RefusalNumbers = (s : List ℕ) → RefusalNumber (refusal_of s)

abbrev pub EachNumber : Type 0
EachNumber = (n : ℕ) → RefusalNumber n → (s : List ℕ) × (refusal_of s ≡ n)

-- the list of an accepted value is its URIs by the grammar
abbrev pub AcceptedList : Type 0
AcceptedList = (s : List ℕ) → refusal_of s ≡ 0 → Value White s (uris_of s)

-- the list of a refused value is empty
abbrev pub RefusedList : Type 0
RefusedList = (s : List ℕ) → (refusal_of s ≡ 0 → ⊥) → uris_of s ≡ []

-- what each refusal number of entry k says: 0, the value is accepted and has an entry k; 1 to 3, the value has that
-- number; 18, the value is accepted and has no entry k
pub data EntryGiven (W : List ℕ → Type 0) (s : List ℕ) (k : ℕ) : ℕ → Type 0 where
  there : {us : List (List ℕ)} → length s ≤ most_value_bytes → Value W s us → length us ≤ most_entries → k < length us → EntryGiven W s k 0
  refused : {n : ℕ} → Given W s (suc n) → EntryGiven W s k (suc n)
  missing : {us : List (List ℕ)} → length s ≤ most_value_bytes → Value W s us → length us ≤ most_entries → length us ≤ k
      → EntryGiven W s k 18

-- a number is entry k's exactly if what it says holds
abbrev pub EntryRefusedExactly : Type 0
EntryRefusedExactly = (s : List ℕ) (k n : ℕ) → entry_refusal_of s k ≡ n ↔ EntryGiven White s k n

-- no other numbers are given, and each of these is
abbrev pub EntryRefusalNumber : ℕ → Type 0
EntryRefusalNumber n = (n ≤ 3) ⊎ (n ≡ 18)

abbrev pub EntryRefusalNumbers : Type 0
EntryRefusalNumbers = (s : List ℕ) (k : ℕ) → EntryRefusalNumber (entry_refusal_of s k)

abbrev pub EachEntryNumber : Type 0
EachEntryNumber = (n : ℕ) → EntryRefusalNumber n → (s : List ℕ) × (k : ℕ) × (entry_refusal_of s k ≡ n)

-- an entry is refused exactly if its part is empty, and then its place is 0 and 0
abbrev pub RefusedEntry : Type 0
RefusedEntry = (s : List ℕ) (k : ℕ) → (entry_refusal_of s k ≡ 0 → ⊥) ↔ (entry_of s k ≡ [])

abbrev pub RefusedPlace : Type 0
RefusedPlace = (s : List ℕ) (k : ℕ) → (entry_refusal_of s k ≡ 0 → ⊥) → span_of s k ≡ nowhere

-- entry k lies where the grammar has it: its URI is a part of the value, and before it stand k entries with a comma after
-- each, and its bracket
abbrev pub Lies : (List ℕ → Type 0) → List ℕ → ℕ → Type 0
Lies W s k =
    (a : List ℕ) × (b : List ℕ) × Before W k a × (s ≡ a ++ (entry_of s k ++ b)) ×
    (span_of s k ≡ record { start = length a; len = length (entry_of s k) })

abbrev pub Places : Type 0
Places = (s : List ℕ) (k : ℕ) → k < entries_of s → Lies White s k

-- and only there
abbrev pub OnePlace : Type 0
OnePlace = (s : List ℕ) (k : ℕ) (a b : List ℕ) → k < entries_of s → Before White k a → s ≡ a ++ b → (span_of s k).start ≡ length a

-- no byte is CR: so whatever has neither CR nor LF
abbrev pub not_cr : ℕ → Bool
not_cr b = not (eqb b (code "\r"))

abbrev pub Unfolded : List ℕ → Type 0
Unfolded s = Any not_cr s

-- such a value is one by the white space with folds exactly if it is one, with the same URIs, by that without
abbrev pub SameUnfolded : Type 0
SameUnfolded = (s : List ℕ) (us : List (List ℕ)) → Unfolded s → Value White s us ↔ Value Blanks s us

-- so its refusal number, its list, its entries' numbers and their places are what they were before lines were folded
abbrev pub AsBefore : Type 0
AsBefore = (s : List ℕ) → Unfolded s
    → ((n : ℕ) → refusal_of s ≡ n ↔ Given Blanks s n) × (refusal_of s ≡ 0 → Value Blanks s (uris_of s)) ×
    ((k n : ℕ) → entry_refusal_of s k ≡ n ↔ EntryGiven Blanks s k n) × ((k : ℕ) → k < entries_of s → Lies Blanks s k)
