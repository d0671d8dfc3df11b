-- Tables in both stored forms as bytes: the old form has every URN in full, the tree form has each node once. In both, a section
-- comes after its count and a text after its length.
use Rattle.std.specs.Prelude.{ℕ, List, ◌∷◌, ◌++◌}
unfoldable pub use Rattle.table_decode.specs.Bytes.{stored_bytes}
pub use Rattle.table_decode.specs.Bytes.{section, text_bytes, number_bytes}
use Rattle.tree_sections.specs.Tree.{Node, Tree}

-- a node: its category, its parent and its last name
abbrev pub node_bytes : Node → List ℕ
node_bytes n = n.category ∷ n.parent ∷ text_bytes n.last

-- the bytes of a table in the tree form
unfoldable pub tree_bytes : Tree → List ℕ
tree_bytes x = section text_bytes x.names ++ (section node_bytes x.nodes ++ section (section number_bytes) x.signals)
