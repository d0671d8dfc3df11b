-- What is known of a table and its arrays after refusals 7 and 8.
use Rattle.std.specs.Prelude.{ℕ, ◌≤◌, ◌≡◌, true, List, length}
use Rattle.base_numbers.specs.Numbers.{most_categories, most_table_bytes}
use Rattle.base_lists.specs.Cuts.{stretch}
use Rattle.base_lists.specs.Lists.{tabulate}
use Rattle.base_text.specs.Text.{fields}
use Rattle.table_sections.specs.Held.{Padded, ReadAs}
use Rattle.table_sections.specs.declared.Counts.{Counts}
use Rattle.table_places.specs.Slots.{Listing}
use Rattle.table_decode.specs.Tables.{formed, verdict, category_names, table_of, table_refusal}

-- after 7
pub record FormedAs (t name_at name_len at len signal : List ℕ) (l : Counts) : Type 0 where
  pub short : length t ≤ most_table_bytes
  pub read : ReadAs t name_at name_len at len signal l
  pub form : formed (record { names = tabulate (stretch t name_at name_len) l.categories; signals = read.signals }) ≡ true

-- after 8: the arrays say the theory's table
pub record ListedAs (t name_at name_len signal category path_at path_len : List ℕ) (l : Counts) : Type 0 where
  pub names : category_names t ≡ tabulate (stretch t name_at name_len) l.categories
  pub cats : (table_of t).cats ≡ l.categories
  pub listing : Listing (table_of t) signal category (λ i. fields 58 (stretch t path_at path_len i)) l.signals l.urns
  pub refusal : table_refusal t ≡ verdict (table_of t)
  pub past-at : Padded most_categories l.categories name_at
  pub past-len : Padded most_categories l.categories name_len
