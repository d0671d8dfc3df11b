-- Which table of the theory a tree form says, and how the two stored forms are made from each other.
use Rattle.std.specs.Prelude.{ℕ, zero, suc, ◌-◌, List, [], ◌∷◌, ◌++◌, map, length, get_or, take}
use Rattle.theory_resolution.specs.Names.{Name, Parts}
use Rattle.theory_resolution.specs.Table.{Urn, urn, Table}
use Rattle.theory_resolution.specs.Nodes.{nodes, number, node_at}
use Rattle.base_text.specs.Text.{after_colons}
use Rattle.table_sections.specs.Stored.{Stored}
use Rattle.table_decode.specs.Tables.{table_in}
use Rattle.tree_sections.specs.Tree.{Node, Tree}

-- the URN of node k, the nodes' URNs being us; the root, of the first category, for 0
abbrev pub urn_of : List Urn → ℕ → Urn
urn_of us zero = urn 0 []
urn_of us (suc k) = node_at us k

-- the URN of a node, those of the nodes before it being us: its parent's path with its last name
abbrev pub node_urn : List Urn → Node → Urn
node_urn us n = urn n.category ((urn_of us n.parent).path ++ n.last ∷ [])

-- the URNs of nodes, after those of the nodes before them
unfoldable pub urns_after : List Urn → List Node → List Urn
urns_after us [] = us
urns_after us (n ∷ ns) = urns_after (us ++ node_urn us n ∷ []) ns

-- the URNs of a tree's nodes, in their order
abbrev pub urns_of : Tree → List Urn
urns_of x = urns_after [] x.nodes

-- the table that a tree says
abbrev pub table_of_tree : Tree → Table
table_of_tree x = record { cats = length x.names; signals = map (map (urn_of (urns_of x))) x.signals }

-- a path without its last name
abbrev pub front : Parts → Parts
front p = take (length p - 1) p

-- the last name of a path
abbrev pub last_name : Parts → Name
last_name p = get_or p (length p - 1) []

-- a node by its URN, among the URNs of all nodes
abbrev pub node_in : List Urn → Urn → Node
node_in us u = record { category = u.cat; parent = number us u.cat (front u.path); last = last_name u.path }

-- a URN's number
abbrev pub number_in : List Urn → Urn → ℕ
number_in us u = number us u.cat u.path

-- the tree of a table whose categories have these names
unfoldable pub tree_in : List Name → Table → Tree
tree_in names T = record { names = names; nodes = map (node_in (nodes T)) (nodes T); signals = map (map (number_in (nodes T))) T.signals }

-- a URN as the old form stores it, without `urn:alert:`
abbrev pub urn_text : List Name → Urn → List ℕ
urn_text names u = get_or names u.cat [] ++ after_colons u.path

-- what the old form of a table stores whose categories have these names
unfoldable pub stored_in : List Name → Table → Stored
stored_in names T = record { names = names; signals = map (map (urn_text names)) T.signals }

-- old to new
abbrev pub tree_of : Stored → Tree
tree_of s = tree_in s.names (table_in s)

-- new to old
abbrev pub stored_of : Tree → Stored
stored_of x = stored_in x.names (table_of_tree x)
