-- The list that shows a loss, written as a value: the reader accepts it, and the table uses its URIs as the nodes shown.
use Rattle.std.specs.Prelude.{ℕ, ◌≤◌, ◌≡◌, List, map, length}
use Rattle.base_numbers.specs.Numbers.{most_value_bytes}
use Rattle.theory_resolution.specs.Table.{Urn}
use Rattle.value_reader.specs.Grammar.{White, Value}
use Rattle.value_reader.specs.Value.{refusal_of}
use Rattle.table_decode.specs.Tables.{category_names}
use Rattle.sample_library.specs.Sample.{uri_of, name_of, value_of}
use Rattle.table_kept.specs.Answers.{kept_answer_of}
use Rattle.claims_kept.specs.Marks.{used_in, shown_urns}

-- a node's URN as bytes: urn:alert: , its category's name and its parts, with colons between
abbrev pub uri_in : List ℕ → Urn → List ℕ
uri_in t u = uri_of (name_of (category_names t) u) u.path

-- the list shown as a value: each URN between < and >, with commas between
abbrev pub shown_value : List ℕ → ℕ → ℕ → List ℕ
shown_value t set d = value_of (map (uri_in t) (shown_urns t set d))

pub record ShownIsRead (t : List ℕ) (set d : ℕ) : Type 0 where
  -- it is a value of the grammar, with these URIs
  pub grammar : Value White (shown_value t set d) (map (uri_in t) (shown_urns t set d))
  -- it has at most 4,096 bytes, so it is accepted, and the table uses its URIs as the nodes shown
  pub short : length (shown_value t set d) ≤ most_value_bytes
  pub accepted : refusal_of (shown_value t set d) ≡ 0
  pub used : used_in t (shown_value t set d) ≡ shown_urns t set d

-- wherever the answer is that a mark is lost
abbrev pub EveryShown : Type 0
EveryShown = (t : List ℕ) (set d : ℕ) → (kept_answer_of t set d).refusal ≡ 0 → (kept_answer_of t set d).kept ≡ 0 → ShownIsRead t set d
