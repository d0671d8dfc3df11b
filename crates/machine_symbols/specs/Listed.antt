-- The symbols as the code lists them, from the nodes' categories and from which have nodes under them (node k at k - 1), three bytes for each.
use Rattle.std.specs.Prelude.{ℕ, zero, suc, ◌+◌, ◌-◌, ◌*◌, ◌/◌, ◌≤◌, min, ◌≡◌, Bool, false, cond, ◌&&◌, List, [], ◌∷◌, ◌++◌, eqb, ltb, length, get_or, set, take, drop, replicate}
use Rattle.base_numbers.specs.Numbers.{most_symbol_bytes, most_symbols}
use Rattle.theory_resolution.specs.Table.{Table}
use Rattle.theory_resolution.specs.Symbols.{symbols}
use Rattle.node_step.specs.Step.{inner_at}
use Rattle.machine_image.specs.Image.{stored_symbols}
use Rattle.machine_symbols.specs.declared.Symbols.{Symbols}
use Rattle.machine_symbols.specs.declared.Symbol.{Symbol}

abbrev pub triple : ℕ → ℕ → ℕ → List ℕ
triple c k kind = c ∷ k ∷ kind ∷ []

-- the symbols of the node at i, if it is of category c: itself and, unless it is a leaf, its Other
unfoldable pub node_triples : List ℕ → List Bool → ℕ → ℕ → List ℕ
node_triples ca inner c i =
    cond (eqb (get_or ca i 0) c) (triple c (i + 1) 0 ++ cond (get_or inner i false) (triple c (i + 1) 1) []) []

-- those of the first k nodes
unfoldable pub nodes_triples : List ℕ → List Bool → ℕ → ℕ → List ℕ
nodes_triples ca inner c zero = []
nodes_triples ca inner c (suc k) = nodes_triples ca inner c k ++ node_triples ca inner c k

-- those of category c of n nodes, its own Other last
abbrev pub category_triples : List ℕ → List Bool → ℕ → ℕ → List ℕ
category_triples ca inner n c = nodes_triples ca inner c n ++ triple c 0 1

-- those of the first k categories
unfoldable pub triple_lists : List ℕ → List Bool → ℕ → ℕ → List ℕ
triple_lists ca inner n zero = []
triple_lists ca inner n (suc c) = triple_lists ca inner n c ++ category_triples ca inner n c

-- while they are listed: an array of 384 bytes holds n of them, all or 128, and zeros after them
pub record Listed (bytes : List ℕ) (n : ℕ) (l : List ℕ) : Type 0 where
  pub wide : length bytes ≡ most_symbol_bytes
  pub counted : 3 * n ≡ min most_symbol_bytes (length l)
  pub held : take (3 * n) bytes ≡ take most_symbol_bytes l
  pub rest : drop (3 * n) bytes ≡ replicate (most_symbol_bytes - 3 * n) 0

-- what an array must hold to stand for a table's symbols
pub record SymbolsIn (T : Table) (sy : List ℕ) (count : ℕ) : Type 0 where
  pub wide : length sy ≡ most_symbol_bytes
  pub all-symbols : length (symbols T) ≡ count
  pub few-symbols : count ≤ most_symbols
  pub held : take (3 * count) sy ≡ stored_symbols T

-- symbol k is c, d and kind
unfoldable pub is_triple : List ℕ → ℕ → ℕ → ℕ → ℕ → Bool
is_triple sy c d kind k = eqb (get_or sy (3 * k) 0) c && (eqb (get_or sy (3 * k + 1) 0) d && eqb (get_or sy (3 * k + 2) 0) kind)

-- the first of the n symbols from k on that is c, d and kind, or k + n
unfoldable pub triple_index : List ℕ → ℕ → ℕ → ℕ → ℕ → ℕ → ℕ
triple_index sy c d kind k zero = k
triple_index sy c d kind k (suc n) = cond (is_triple sy c d kind k) k (triple_index sy c d kind (k + 1) n)

-- symbol k
abbrev pub symbol_in : List ℕ → ℕ → Symbol
symbol_in sy k = record { category = get_or sy (3 * k) 0; node = get_or sy (3 * k + 1) 0; kind = get_or sy (3 * k + 2) 0 }

-- the kind of the symbol of a URN under node d: 0 if it is d itself or d is a leaf, else 1; the root is no leaf
unfoldable pub kind_for : List Bool → ℕ → Bool → ℕ
kind_for inner d whole = cond whole 0 (cond (eqb d 0) 1 (cond (inner_at inner d) 1 0))

-- where a symbol stands in the index: a category's Other at its number (0 to 7), a node d at 6 + 2 d, its Other right after it (8 to 135)
abbrev pub slot : ℕ → ℕ → ℕ → ℕ
slot c d kind = cond (eqb d 0) c (6 + 2 * d + kind)

-- the slot of symbol k
abbrev pub slot_at : List ℕ → ℕ → ℕ
slot_at sy k = slot (get_or sy (3 * k) 0) (get_or sy (3 * k + 1) 0) (get_or sy (3 * k + 2) 0)

-- the index of the n symbols from k on: zeros, and at each one's slot, if there is such a slot, its number; of two with one slot, the first's
unfoldable pub index_from : List ℕ → ℕ → ℕ → List ℕ
index_from sy k zero = replicate 136 0
index_from sy k (suc n) = set (index_from sy (k + 1) n) (slot_at sy k) k

-- the symbols of a list of symbols' bytes, the first 128 of them: how many, their bytes with zeros after them, and their index
abbrev pub array_of : List ℕ → List ℕ
array_of l = take most_symbol_bytes l ++ replicate (most_symbol_bytes - length l) 0

unfoldable pub symbols_of : List ℕ → Symbols
symbols_of l = record {
  count = min (length l / 3) most_symbols;
  bytes = array_of l;
  index = index_from (array_of l) 0 (min (length l / 3) most_symbols);
}

-- what the index has at a slot, 0 if there is no such slot
abbrev pub entry_at : List ℕ → ℕ → ℕ
entry_at ix s = cond (ltb s 136) (get_or ix s 0) 0

-- the number of the symbol c, d and kind among the first m: k if that is it, else by the search
unfoldable pub number_from : List ℕ → ℕ → ℕ → ℕ → ℕ → ℕ → ℕ
number_from sy m c d kind k = cond (ltb k m && is_triple sy c d kind k) k (triple_index sy c d kind 0 m)

-- the number of the symbol of a URN of category c under node d, by the index
unfoldable pub symbol_number : List ℕ → List ℕ → ℕ → List Bool → ℕ → ℕ → Bool → ℕ
symbol_number ix sy count inner c d whole =
    number_from sy (min count most_symbols) c d (kind_for inner d whole) (entry_at ix (slot c d (kind_for inner d whole)))
