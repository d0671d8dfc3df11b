-- How the arrays of a decoded table hold what its tree form says.
use Rattle.std.specs.Prelude.{ℕ, ◌≤◌, ◌<◌, ◌+◌, ◌≡◌, List, [], ◌∷◌, ◌++◌, length, get_or}
use Rattle.base_numbers.specs.Numbers.{most_signals, most_table_urns}
use Rattle.base_lists.specs.Cuts.{stretch}
use Rattle.theory_resolution.specs.Names.{Name, Parts}
use Rattle.theory_resolution.specs.Nodes.{nodes as nodes_of, node_at, number as number_of}
use Rattle.base_text.specs.Text.{fields}
use Rattle.node_search.specs.Arrays.{NamesIn, NodesIn}
use Rattle.table_decode.specs.Tables.{table_refusal, table_of, category_names}
use Rattle.tree_sections.specs.Tree.{Node}
use Rattle.tree_forms.specs.Meaning.{last_name}

-- node i + 1 of a stored table, as the arrays hold it with its whole path
abbrev pub stored_node : (t category parent at len : List ℕ) → ℕ → Node
stored_node t category parent at len i = record { category = get_or category i 0; parent = get_or parent i 0; last = last_name (fields 58 (stretch t at len i)) }

-- how many bytes there are at most: of a node, with its category, its parent and a last name of 255 bytes after their number; of the numbers of a
-- signal, with their count
abbrev pub most_node : ℕ
most_node = 2 + most_table_urns

abbrev pub most_numbers : ℕ
most_numbers = 1 + most_table_urns

-- the arrays hold a well-formed table: its categories' names, its nodes with their paths and parents, and how many signals there are
pub record StoredAs (t name_at name_len category parent at len : List ℕ) (categories nodes signals : ℕ) : Type 0 where
  pub right : table_refusal t ≡ 0
  pub names : NamesIn t name_at name_len categories (category_names t)
  pub nodes-in : NodesIn t category at len nodes (table_of t)
  pub all-signals : length (table_of t).signals ≡ signals
  pub few-signals : signals ≤ most_signals
  pub parent-at : (k : ℕ) → k < length (nodes_of (table_of t)) → (p : Parts) (x : Name) → (node_at (nodes_of (table_of t)) k).path ≡ p ++ x ∷ []
      → get_or parent k 0 ≡ number_of (nodes_of (table_of t)) (node_at (nodes_of (table_of t)) k).cat p
