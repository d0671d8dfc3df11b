-- Tables in the tree form: one for each way to be refused with 21, one for each other number, and T1 in both forms.
use Rattle.std.specs.Prelude.{ℕ, List, [], ◌∷◌, ◌++◌, replicate}
use Prim.Native.String.{String}
use Rattle.base_ascii.specs.Ascii.{bytes}
use Rattle.table_decode.specs.Written.{written}
use Rattle.tree_sections.specs.Tree.{Node, Tree}
use Rattle.tree_forms.specs.Bytes.{tree_bytes}

abbrev pub node : ℕ → ℕ → String → Node
node c p x = record { category = c; parent = p; last = bytes x }

-- two categories, and signal 0 silent
abbrev pub two_of : List Node → List (List ℕ) → Tree
two_of ns sigs = record { names = bytes "source" ∷ bytes "priority" ∷ []; nodes = ns; signals = [] ∷ sigs }

-- internal, vip under it, and high
abbrev pub fine : Tree
fine = two_of (node 0 0 "internal" ∷ node 0 1 "vip" ∷ node 1 0 "high" ∷ []) ((1 ∷ []) ∷ (2 ∷ 3 ∷ []) ∷ [])

-- node 3 is no signal's place, and above none
abbrev pub unused : Tree
unused = two_of (node 0 0 "internal" ∷ node 1 0 "high" ∷ node 1 0 "low" ∷ []) ((1 ∷ 2 ∷ []) ∷ [])

-- node 3 is node 1
abbrev pub repeated : Tree
repeated = two_of (node 0 0 "internal" ∷ node 1 0 "high" ∷ node 0 0 "internal" ∷ []) ((1 ∷ 2 ∷ []) ∷ (3 ∷ []) ∷ [])

-- node 2 is used before node 1
abbrev pub out_of_order : Tree
out_of_order = two_of (node 0 0 "internal" ∷ node 1 0 "high" ∷ []) ((2 ∷ 1 ∷ []) ∷ [])

-- node 1's parent is a later node
abbrev pub later_parent : Tree
later_parent = two_of (node 0 2 "vip" ∷ node 0 0 "internal" ∷ node 1 0 "high" ∷ []) ((1 ∷ []) ∷ (2 ∷ 3 ∷ []) ∷ [])

-- node 1's parent is node 1
abbrev pub own_parent : Tree
own_parent = two_of (node 0 1 "internal" ∷ node 1 0 "high" ∷ []) ((1 ∷ 2 ∷ []) ∷ [])

-- node 2's parent is of another category
abbrev pub strange_parent : Tree
strange_parent = two_of (node 0 0 "internal" ∷ node 1 1 "high" ∷ []) ((1 ∷ 2 ∷ []) ∷ [])

-- node 1's parent is not there
abbrev pub no_parent : Tree
no_parent = two_of (node 0 9 "internal" ∷ node 1 0 "high" ∷ []) ((1 ∷ 2 ∷ []) ∷ [])

-- node 2's category is not there
abbrev pub no_category : Tree
no_category = two_of (node 0 0 "internal" ∷ node 2 0 "high" ∷ []) ((1 ∷ 2 ∷ []) ∷ [])

-- a signal's node 0, and a signal's node 3, are not there
abbrev pub no_node : Tree
no_node = two_of (node 0 0 "internal" ∷ node 1 0 "high" ∷ []) ((0 ∷ []) ∷ (1 ∷ 2 ∷ []) ∷ [])

abbrev pub no_such_node : Tree
no_such_node = two_of (node 0 0 "internal" ∷ node 1 0 "high" ∷ []) ((1 ∷ 2 ∷ []) ∷ (3 ∷ []) ∷ [])

-- each is refused with 21
abbrev pub ungrown : List Tree
ungrown =
    unused
    ∷ repeated
    ∷ out_of_order
    ∷ later_parent
    ∷ own_parent
    ∷ strange_parent
    ∷ no_parent
    ∷ no_category
    ∷ no_node
    ∷ no_such_node
    ∷ []

-- refused with 4 to 11, in this order: too long; no byte; no node; a capital letter; a category listed twice; two nodes of one
-- category in a signal; signal 0 with a node; one place twice
abbrev pub refused_trees : List (List ℕ)
refused_trees =
    replicate 8193 0
    ∷ []
    ∷ (1 ∷ 1 ∷ bytes "c" ++ (0 ∷ []))
    ∷ tree_bytes (two_of (node 0 0 "Internal" ∷ node 1 0 "high" ∷ []) ((1 ∷ 2 ∷ []) ∷ []))
    ∷ tree_bytes (record { names = bytes "c" ∷ bytes "c" ∷ []; nodes = node 0 0 "a" ∷ node 1 0 "a" ∷ []; signals = [] ∷ (1 ∷ 2 ∷ []) ∷ [] })
    ∷ tree_bytes (two_of (node 0 0 "internal" ∷ node 1 0 "high" ∷ node 1 0 "low" ∷ []) ((1 ∷ 2 ∷ 3 ∷ []) ∷ []))
    ∷ tree_bytes (record { names = bytes "c" ∷ []; nodes = node 0 0 "a" ∷ []; signals = (1 ∷ []) ∷ [] })
    ∷ tree_bytes (record { names = bytes "c" ∷ []; nodes = node 0 0 "a" ∷ []; signals = [] ∷ (1 ∷ []) ∷ (1 ∷ []) ∷ [] })
    ∷ []

-- default, internal, external: 44 bytes with the URNs in full
abbrev pub old_t1 : List ℕ
old_t1 = written ("source" ∷ []) ([] ∷ ("source:internal" ∷ []) ∷ ("source:external" ∷ []) ∷ [])

-- and 37 with the tree once
abbrev pub tree_t1 : List ℕ
tree_t1 = 1 ∷ 6 ∷ bytes "source" ++ (2 ∷ 0 ∷ 0 ∷ 8 ∷ bytes "internal" ++ (0 ∷ 0 ∷ 8 ∷ bytes "external" ++ (3 ∷ 0 ∷ 1 ∷ 1 ∷ 1 ∷ 2 ∷ [])))
