-- Symbols: which one a URN is turned into, the step by a symbol, and a table's symbols in their order.
use Rattle.std.specs.Prelude.{ℕ, zero, suc, Bool, true, false, cond, not, ◌&&◌, ◌||◌, eqb, get_or}
use mathlib.Core.List.{List, [], ◌∷◌, ◌++◌, foldl}
use Rattle.base_lists.specs.Lists.{index_by}
use Rattle.theory_resolution.specs.Names.{Parts, same_parts}
use Rattle.theory_resolution.specs.Table.{Urn, urn, Table}
use Rattle.theory_resolution.specs.Direct.{State, start, step, env_of}
use Rattle.theory_resolution.specs.Nodes.{nodes, leaf, deepest}

-- a node, or Other under a node or the root: what lies under it and is no node
pub record Symbol : Type 0 where
  pub cat : ℕ
  pub path : Parts
  pub other : Bool

abbrev pub node : ℕ → Parts → Symbol
node c p = record { cat = c; path = p; other = false }

abbrev pub other : ℕ → Parts → Symbol
other c p = record { cat = c; path = p; other = true }

-- the symbol of a URN u whose deepest node or root is d: d itself, if it is u or a leaf; else Other under d
abbrev pub is_other : List Urn → ℕ → Parts → Parts → Bool
is_other ns c u d = not (same_parts d u || leaf ns c d)

-- the symbol that a URN is turned into
abbrev pub symbol_of : List Urn → Urn → Symbol
symbol_of ns u =
    record {
      cat = u.cat;
      path = deepest ns u.cat u.path;
      other = is_other ns u.cat u.path (deepest ns u.cat u.path);
    }

-- the path that a symbol steps as; Other has a further part, which is no node's: the empty name
abbrev pub steps_as_path : Bool → Parts → Parts
steps_as_path false p = p
steps_as_path true p = p ++ [] ∷ []

-- the URN that a symbol steps as
abbrev pub steps_as : Symbol → Urn
steps_as s = urn s.cat (steps_as_path s.other s.path)

-- the state after one symbol
abbrev pub step_symbol : Table → State → Symbol → State
step_symbol t st s = step (env_of t) st (steps_as s)

-- the state after the symbols of a list of used URNs
abbrev pub by_symbols : Table → List Urn → State
by_symbols t us = foldl (λ st u. step_symbol t st (symbol_of (nodes t) u)) (start t.cats) us

-- a node's own symbols: itself and, unless it is a leaf, its Other
abbrev pub own_symbols : List Urn → ℕ → Parts → List Symbol
own_symbols ns c p = node c p ∷ cond (leaf ns c p) [] (other c p ∷ [])

-- the symbols of category c's nodes, by number
abbrev pub node_symbols : List Urn → ℕ → List Urn → List Symbol
node_symbols ns c [] = []
node_symbols ns c (n ∷ rest) = cond (eqb n.cat c) (own_symbols ns c n.path) [] ++ node_symbols ns c rest

-- the symbols of the k categories from c on, each category's own Other last
abbrev pub symbols_from : List Urn → ℕ → ℕ → List Symbol
symbols_from ns c zero = []
symbols_from ns c (suc k) = node_symbols ns c ns ++ other c [] ∷ symbols_from ns (suc c) k

-- the table's symbols in their order
abbrev pub symbols : Table → List Symbol
symbols t = symbols_from (nodes t) 0 t.cats

-- the symbol with number k, counted from 0
abbrev pub symbol_at : Table → ℕ → Symbol
symbol_at t k = get_or (symbols t) k (other 0 [])

abbrev pub same_bool : Bool → Bool → Bool
same_bool true b = b
same_bool false true = false
same_bool false false = true

abbrev pub same_symbol : Symbol → Symbol → Bool
same_symbol a b = eqb a.cat b.cat && (same_parts a.path b.path && same_bool a.other b.other)

-- a symbol's number in the list
abbrev pub symbol_index : Symbol → List Symbol → ℕ
symbol_index = index_by same_symbol

-- the state after the symbol with number k
abbrev pub step_at : Table → State → ℕ → State
step_at t st k = step_symbol t st (symbol_at t k)
