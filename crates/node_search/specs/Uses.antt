-- Which URIs are used, and what a used one is to the table: its category, the deepest node above it, whether it is that node, and the
-- bytes compared to find it.
use Rattle.std.specs.Prelude.{ℕ, ◌+◌, ◌≡◌, cond, ◌&&◌, List, [], ◌∷◌, drop, eqb}
use Rattle.std.specs.Prelude as code
use Rattle.std.proofs.Math.Option.{Option, none, some}
use Rattle.base_lists.specs.Lists.{member_by, index_by}
use Rattle.theory_resolution.specs.Names.{Name, Parts, same_name, same_parts, below, some_below}
use Rattle.theory_resolution.specs.Table.{Urn, urn, Table}
use Rattle.theory_resolution.specs.Nodes.{nodes, number, leaf, deepest}
use Rattle.base_text.specs.Text.{fields, text_of, compared_bytes, lowered}
use Rattle.base_text.specs.LetterCase.{SameButCase}
use Rattle.urn_names.specs.Urn.{alert_urn, category_of, path_of}
use Rattle.node_search.specs.declared.uses.Used.{Used}

-- a URI is used if it is an alert URN of one of the table's categories; this is that URN. Its letters are taken as small ones: names
-- are compared without regard to letter case, and those of a table have no capital letter
unfoldable pub used_urn : List Name → List ℕ → Option Urn
used_urn names uri =
    cond (alert_urn uri && member_by same_name (category_of (lowered (drop 10 uri))) names)
    (some (urn (index_by same_name (category_of (lowered (drop 10 uri))) names) (fields 58 (path_of (lowered (drop 10 uri))))))
    none

-- URIs that are the same but for letter case are used alike, as the same URN
abbrev pub CaseIgnored : Type 0
CaseIgnored = (names : List Name) (a b : List ℕ) → SameButCase a b → used_urn names a ≡ used_urn names b

-- The search for the path u in category c goes through the nodes of that category in their order and ends with the first leaf that is
-- u or above it. Of each node's path it compares the bytes that u has at the same places, and the first that it lacks there.

-- the bytes compared over the nodes that are left, among the nodes ns
unfoldable pub compared_over : List Urn → ℕ → Parts → List Urn → ℕ
compared_over ns c u [] = 0
compared_over ns c u (n ∷ l) =
    cond (eqb n.cat c)
    (compared_bytes (text_of n.path) (text_of u) + cond (leaf ns c n.path && some_below (below n.path u)) 0 (compared_over ns c u l))
    (compared_over ns c u l)

-- the bytes compared to find the deepest node above a URN
abbrev pub compared : Table → Urn → ℕ
compared t u = compared_over (nodes t) u.cat u.path (nodes t)

-- what a used URN is to a table: its category, the deepest node above it, whether it is that node, and the bytes compared to find it
abbrev pub use_of : Table → Option Urn → code.Option Used
use_of t none = code.None
use_of t (some u) =
    code.Some (record {
      category = u.cat;
      node = number (nodes t) u.cat (deepest (nodes t) u.cat u.path);
      whole = same_parts (deepest (nodes t) u.cat u.path) u.path;
      compared = compared t u;
    })
