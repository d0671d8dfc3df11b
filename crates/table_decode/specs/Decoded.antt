-- What decoding answers: the arrays stand for the table that the bytes say.
use Rattle.std.specs.Prelude.{ℕ, ◌≤◌, ◌<◌, ◌≡◌, false, Result, Ok, Err, List, get_or}
use Rattle.base_numbers.specs.Numbers.{most_categories, most_nodes, most_signals}
use Rattle.base_numbers.specs.Refusals.{refusal_number}
use Rattle.base_numbers.specs.declared.refusal.Refusal.{Refusal}
use Rattle.theory_resolution.specs.Table.{Table, WellFormed}
use Rattle.node_search.specs.Arrays.{NamesIn, NodesIn, SharedIn, InnerIn}
use Rattle.node_step.specs.Rows.{Numbers}
use Rattle.table_sections.specs.Held.{Padded}
use Rattle.table_decode.specs.Tables.{category_names, table_of, table_refusal}
use Rattle.node_search.specs.declared.decoded.Decoded.{Decoded}

-- the arrays hold the table T of the bytes t
pub record Holds (t : List ℕ) (T : Table) (r : Decoded) : Type 0 where
  pub categories : r.categories ≡ T.cats
  pub names : NamesIn t r.name_at r.name_len r.categories (category_names t)
  pub nodes : NodesIn t r.category r.at r.len r.nodes T
  pub shared : SharedIn t r.category r.at r.len r.shared r.nodes
  pub inner : InnerIn r.inner T
  pub numbers : Numbers r.rows r.parent r.signals T
  pub well-formed : WellFormed T

-- past what the counts say, the arrays are 0, and no node is there that has nodes under it
pub record Past (r : Decoded) : Type 0 where
  pub name-at : Padded most_categories r.categories r.name_at
  pub name-len : Padded most_categories r.categories r.name_len
  pub category : Padded most_nodes r.nodes r.category
  pub parent : Padded most_nodes r.nodes r.parent
  pub at : Padded most_nodes r.nodes r.at
  pub len : Padded most_nodes r.nodes r.len
  pub inner : (k : ℕ) → r.nodes ≤ k → k < most_nodes → get_or r.inner k false ≡ false
  pub rows : Padded most_signals r.signals r.rows

-- the bytes are a table, and the arrays stand for it
pub record DecodedAs (t : List ℕ) (d : Decoded) : Type 0 where
  pub refusal : table_refusal t ≡ 0
  pub holds : Holds t (table_of t) d
  pub past : Past d

-- what `decode` answers: the table, or with what it is refused
abbrev pub Means : List ℕ → Result Decoded Refusal → Type 0
Means t (Ok d) = DecodedAs t d
Means t (Err k) = refusal_number k ≡ table_refusal t
