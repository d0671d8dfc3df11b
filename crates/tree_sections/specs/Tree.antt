-- A table that writes its tree once: three sections, each with its count in front, read from the left. Refusals 4, 5 and 6.
use Rattle.std.specs.Prelude.{ℕ, cond, List, [], length, get_or, ltb}
use Rattle.base_numbers.specs.Numbers.{most_name_bytes, most_nodes, most_signals, most_table_bytes, most_urns, table_too_long, table_wrong_end}
use Rattle.theory_resolution.specs.Names.{Name}
use Rattle.table_sections.specs.Stored.{Read, fault, got, and_then, byte_in, text, counted, categories}

-- a node: its category, the number of its parent (0: directly under the root) and the last name of its path
pub record Node : Type 0 where
  pub category : ℕ
  pub parent : ℕ
  pub last : Name

-- the node at index i: it has number i + 1
abbrev pub node_of : List Node → ℕ → Node
node_of ns i = get_or ns i (record { category = 0; parent = 0; last = [] })

-- what a table in the tree form holds: the categories' names, the nodes, and for each signal its nodes' numbers
pub record Tree : Type 0 where
  pub names : List Name
  pub nodes : List Node
  pub signals : List (List ℕ)

-- a number of any byte's value
abbrev pub any_byte : List ℕ → ℕ → Read ℕ
any_byte t at = byte_in 0 255 t at

-- a node: two numbers, and a name of 1 to 55 bytes
unfoldable pub node : List ℕ → ℕ → Read Node
node t at =
    and_then (any_byte t at) (λ c p. and_then (any_byte t p) (λ k q. and_then (text most_name_bytes t q) (λ x r. got (record { category = c; parent = k; last = x }) r)))

-- 1 to 64 nodes
abbrev pub nodes : List ℕ → ℕ → Read (List Node)
nodes t at = counted 1 most_nodes (node t) t at

-- a signal: the numbers of 0 to 8 nodes
abbrev pub signal : List ℕ → ℕ → Read (List ℕ)
signal t at = counted 0 most_urns (any_byte t) t at

-- 1 to 32 signals
abbrev pub signals : List ℕ → ℕ → Read (List (List ℕ))
signals t at = counted 1 most_signals (signal t) t at

-- the signals after the categories and the nodes, and nothing after them
unfoldable pub signals_from : List ℕ → List Name → List Node → ℕ → Read Tree
signals_from t ns ds at =
    and_then (signals t at) (λ ss p. cond (ltb p (length t)) (fault table_wrong_end) (got (record { names = ns; nodes = ds; signals = ss }) p))

-- the nodes and the signals after the categories
unfoldable pub nodes_from : List ℕ → List Name → ℕ → Read Tree
nodes_from t ns at = and_then (nodes t at) (λ ds p. signals_from t ns ds p)

-- the whole table
unfoldable pub tree : List ℕ → Read Tree
tree t = and_then (categories t 0) (λ ns at. nodes_from t ns at)

-- the same, with 4 where it is over 8,192 bytes
abbrev pub tree_sections : List ℕ → Read Tree
tree_sections t = cond (ltb most_table_bytes (length t)) (fault table_too_long) (tree t)
