-- What is claimed of every value made, and of what the maker answers.
use Rattle.std.specs.Prelude.{ℕ, zero, suc, ◌+◌, ◌*◌, ◌≤◌, ◌<◌, ◌≡◌, ◌⊎◌, ◌↔◌, true, cond, length, take, drop}
use mathlib.Core.List.{List, [], ◌∷◌, Memᴰ}
use Rattle.base_numbers.specs.Numbers.{sample_room}
use Rattle.value_reader.specs.Value.{refusal_of, uris_of}
use Rattle.theory_resolution.specs.Names.{Name, same_name}
use Rattle.urn_names.specs.Urn.{alert_urn}
use Rattle.table_decode.specs.Tables.{table_refusal, category_names}
use Rattle.sample_seed.specs.Numbers.{next_of, choice_of}
use Rattle.sample_library.specs.Sample.{foreign_uri, drawn_of, sample_of, made_of, buffer_of}

-- the choices that some entries took, told from their URIs: one for a foreign entry, two for any other
unfoldable pub choices_in : List Name → List (List ℕ) → ℕ
choices_in names [] = 0
choices_in names (u ∷ us) = cond (same_name u (foreign_uri names)) 1 2 + choices_in names us

-- a seed after so many choices
unfoldable pub after : ℕ → ℕ → ℕ
after zero x = x
after (suc n) x = next_of (after n x)

-- of a well-formed table and a seed
pub record GoodSample (t : List ℕ) (x : ℕ) : Type 0 where
  -- the reader accepts the value, and lists the URIs that were drawn, as many as were chosen
  pub accepted : refusal_of (sample_of t x).value ≡ 0
  pub listed : uris_of (sample_of t x).value ≡ (drawn_of t x).uris
  pub counted : length (uris_of (sample_of t x).value) ≡ suc (choice_of (next_of x) 8)
  -- each is an alert URN
  pub alerts : (uri : List ℕ) → Memᴰ uri (uris_of (sample_of t x).value) → alert_urn uri ≡ true
  -- it is short
  pub short : length (sample_of t x).value ≤ 8 * 271 + 7
  -- the seed went on once for each choice: one for the number of entries, and those of the entries
  pub advanced : (sample_of t x).seed ≡ after (suc (choices_in (category_names t) (uris_of (sample_of t x).value))) x

abbrev pub AllGood : Type 0
AllGood = (t : List ℕ) → table_refusal t ≡ 0 → (x : ℕ) → GoodSample t x

-- of a table, a seed and a buffer, whatever they are
pub record Answers (t : List ℕ) (x : ℕ) (b : List ℕ) : Type 0 where
  -- 4 to 12 come first, whatever the buffer
  pub table-first : (table_refusal t ≡ 0 → ⊥) → (made_of t x (length b)).refusal ≡ table_refusal t
  -- then 26, exactly for a buffer under 4,096 bytes
  pub too_short : table_refusal t ≡ 0 → ((made_of t x (length b)).refusal ≡ 26) ↔ (length b < sample_room)
  -- a refusal changes nothing, neither buffer nor seed, and its length is 0
  pub refused-keeps : ((made_of t x (length b)).refusal ≡ 0 → ⊥) → (buffer_of t x b ≡ b) × ((made_of t x (length b)).seed ≡ x) × ((made_of t x (length b)).len ≡ 0)
  -- else the buffer has the value, as long as was answered, and behind it what it had
  pub value : (made_of t x (length b)).refusal ≡ 0 → take (made_of t x (length b)).len (buffer_of t x b) ≡ (sample_of t x).value
  pub past-kept : (made_of t x (length b)).refusal ≡ 0 → drop (made_of t x (length b)).len (buffer_of t x b) ≡ drop (made_of t x (length b)).len b
  pub as_long : length (buffer_of t x b) ≡ length b

abbrev pub AllAnswers : Type 0
AllAnswers = (t : List ℕ) (x : ℕ) (b : List ℕ) → Answers t x b

-- no other numbers are given, and each of these is
abbrev pub MakerNumber : ℕ → Type 0
MakerNumber n = (n ≡ 0) ⊎ (((4 ≤ n) × (n ≤ 12)) ⊎ (n ≡ 26))

abbrev pub MakerNumbers : Type 0
MakerNumbers = (t : List ℕ) (x n : ℕ) → MakerNumber (made_of t x n).refusal

abbrev pub EachMakerNumber : Type 0
EachMakerNumber = (k : ℕ) → MakerNumber k → (t : List ℕ) × (x : ℕ) × (n : ℕ) × ((made_of t x n).refusal ≡ k)
