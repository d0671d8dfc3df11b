-- How the arrays that are lent from function to function hold what was read of a tree.
use Rattle.std.specs.Prelude.{ℕ, ◌-◌, ◌≤◌, ◌≡◌, Result, Ok, Err, List, length, get_or, take, drop}
use Rattle.base_numbers.specs.Numbers.{most_categories, most_name_bytes, most_nodes, most_signals, most_table_bytes, most_table_urns}
use Rattle.base_numbers.specs.Refusals.{refusal_number}
use Rattle.base_numbers.specs.declared.refusal.Refusal.{Refusal}
use Rattle.base_lists.specs.Cuts.{stretch}
use Rattle.base_lists.specs.Lists.{tabulate}
use Rattle.theory_resolution.specs.Names.{Name}
use Rattle.table_sections.specs.Stored.{Read, fault, got}
use Rattle.table_sections.specs.Held.{Tagged, tag, tagged_from}
use Rattle.tree_sections.specs.Tree.{Node, Tree, signals_from, nodes_from, tree, tree_sections}
use Rattle.tree_sections.specs.declared.Counts.{Counts}
use Rattle.tree_sections.specs.declared.Sections.{Sections}
use Rattle.tree_sections.specs.declared.nodes.Found.{Found}

-- a node that was read: its last name has the x.len bytes before x.next
abbrev pub node_read : List ℕ → Result Found Refusal → Read Node
node_read t (Err k) = fault (refusal_number k)
node_read t (Ok x) = got (record { category = x.category; parent = x.parent; last = take x.len (drop (x.next - x.len) t) }) x.next

-- they are at most 55, and inside the table
abbrev pub node_inside : List ℕ → Result Found Refusal → Type 0
node_inside t (Err k) = Unit {0}
node_inside t (Ok x) = (x.len ≤ most_name_bytes) × (x.len ≤ x.next) × (x.next ≤ length t)

-- the node at index i, as the arrays hold it
abbrev pub node_from : List ℕ → List ℕ → List ℕ → List ℕ → List ℕ → ℕ → Node
node_from t category parent at len i = record { category = get_or category i 0; parent = get_or parent i 0; last = stretch t at len i }

-- the i-th number of all signals, with its signal
abbrev pub number_at : List ℕ → List ℕ → ℕ → Tagged ℕ
number_at signal number i = tag (get_or signal i 0) (get_or number i 0)

-- the arrays hold these signals
pub record Held (signal number : List ℕ) (r : Counts) (ss : List (List ℕ)) : Type 0 where
  pub numbers : tabulate (number_at signal number) r.numbers ≡ tagged_from 0 ss
  pub all-signals : length ss ≡ r.signals
  pub few-signals : r.signals ≤ most_signals
  pub few-numbers : r.numbers ≤ most_table_urns

-- the signals that were read from a position on
pub record RestHeld (t signal number : List ℕ) (categories nodes from : ℕ) (r : Counts) : Type 0 where
  pub signals : List (List ℕ)
  pub next : ℕ
  pub whole : (names : List Name) (ns : List Node) → signals_from t names ns from ≡ got (record { names = names; nodes = ns; signals = signals }) next
  pub held : Held signal number r signals
  pub same-categories : r.categories ≡ categories
  pub same_nodes : r.nodes ≡ nodes

-- the answer of their reading
abbrev pub RestRead : (t signal number : List ℕ) (categories nodes from : ℕ) → Result Counts Refusal → Type 0
RestRead t signal number categories nodes from (Err k) = (names : List Name) (ns : List Node) → signals_from t names ns from ≡ fault (refusal_number k)
RestRead t signal number categories nodes from (Ok r) = RestHeld t signal number categories nodes from r

-- the nodes and signals that were read from a position on
pub record BothHeld (t category parent at len signal number : List ℕ) (categories from : ℕ) (r : Counts) : Type 0 where
  pub signals : List (List ℕ)
  pub next : ℕ
  pub whole : (names : List Name) → nodes_from t names from ≡ got (record { names = names; nodes = tabulate (node_from t category parent at len) r.nodes; signals = signals }) next
  pub held : Held signal number r signals
  pub same-categories : r.categories ≡ categories
  pub few-nodes : r.nodes ≤ most_nodes

-- the answer of their reading
abbrev pub BothRead : (t category parent at len signal number : List ℕ) (categories from : ℕ) → Result Counts Refusal → Type 0
BothRead t category parent at len signal number categories from (Err k) = (names : List Name) → nodes_from t names from ≡ fault (refusal_number k)
BothRead t category parent at len signal number categories from (Ok r) = BothHeld t category parent at len signal number categories from r

-- the tree that the arrays hold
abbrev pub tree_held : (t name_at name_len category parent at len : List ℕ) → List (List ℕ) → Counts → Tree
tree_held t name_at name_len category parent at len ss r =
    record { names = tabulate (stretch t name_at name_len) r.categories; nodes = tabulate (node_from t category parent at len) r.nodes; signals = ss }

-- the arrays hold a tree that could be read
pub record TreeHeld (t name_at name_len category parent at len signal number : List ℕ) (r : Counts) : Type 0 where
  pub signals : List (List ℕ)
  pub next : ℕ
  pub short : length t ≤ most_table_bytes
  pub whole : tree t ≡ got (tree_held t name_at name_len category parent at len signals r) next
  pub held : Held signal number r signals
  pub few-categories : r.categories ≤ most_categories
  pub few-nodes : r.nodes ≤ most_nodes

-- the answer of the reading
abbrev pub TreeRead : (t name_at name_len category parent at len signal number : List ℕ) → Result Counts Refusal → Type 0
TreeRead t name_at name_len category parent at len signal number (Err k) = tree_sections t ≡ fault (refusal_number k)
TreeRead t name_at name_len category parent at len signal number (Ok r) = TreeHeld t name_at name_len category parent at len signal number r

-- what `read` answers
abbrev pub Reads : List ℕ → Result Sections Refusal → Type 0
Reads t (Err k) = tree_sections t ≡ fault (refusal_number k)
Reads t (Ok s) = TreeHeld t s.name_at s.name_len s.category s.parent s.at s.len s.signal s.number s.counts
