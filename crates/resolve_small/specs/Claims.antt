-- What is claimed of the resolver of small images, for all bytes.
use Rattle.std.specs.Prelude.{ℕ, ◌+◌, ◌*◌, ◌≤◌, ◌<◌, ◌≡◌, ◌↔◌, List, length, get_or, take, drop}
use Rattle.base_numbers.specs.Numbers.{most_states}
use Rattle.value_reader.specs.Value.{uris_of}
use Rattle.theory_resolution.specs.Table.{Table}
use Rattle.machine_image.specs.Image.{stored_symbols, symbol_count, state_count}
use Rattle.table_decode.specs.Tables.{table_of}
use Rattle.resolve_run.specs.Answers.{number_of, answered}
use Rattle.resolve_small.specs.Resolve.{walked_small, resolved_small}

-- a small image of the right form for a table
pub record RightSmall (T : Table) (small : List ℕ) : Type 0 where
  -- it is as long as its two counts give, its symbols are the table's, and it has 1 to 256 classes
  pub length-right : length small ≡ 3 + 3 * symbol_count small + state_count small * (symbol_count small + 1)
  pub symbols-right : take (3 * symbol_count small) (drop 1 small) ≡ stored_symbols T
  pub some-class : 1 ≤ state_count small
  pub few-classes : state_count small ≤ most_states
  -- every class begins with a signal of the table, and its row of classes comes next
  pub signal-listed : (c : ℕ) → c < state_count small → get_or small (3 + 3 * symbol_count small + c * (symbol_count small + 1)) 0 < length T.signals
  pub leads : (c k : ℕ) → c < state_count small → k < symbol_count small
      → get_or small (4 + 3 * symbol_count small + c * (symbol_count small + 1) + k) 0 < state_count small

-- of a value
pub record SmallAnswers (t small v : List ℕ) : Type 0 where
  -- what the plain resolver refuses, 1 to 12, is refused with the same number, whatever the small image
  pub first : (number_of t v ≡ 0 → ⊥) → resolved_small t small v ≡ record { refusal = number_of t v; signal = 0; used = 0; skipped = 0 }
  -- then 15 is given exactly to a small image that is not of the right form
  pub fifteen : number_of t v ≡ 0 → (resolved_small t small v ≡ record { refusal = 15; signal = 0; used = 0; skipped = 0 }) ↔ (RightSmall (table_of t) small → ⊥)
  -- any other is walked as it is stored, whoever wrote it
  pub walks : number_of t v ≡ 0 → RightSmall (table_of t) small → resolved_small t small v ≡ answered t (uris_of v) (walked_small t small (uris_of v))

-- what is proved
abbrev pub AnswersClaim : Type 0
AnswersClaim = (t small v : List ℕ) → SmallAnswers t small v
