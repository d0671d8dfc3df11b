-- With which of the numbers 9 to 12 a table of the theory is refused, and the number that an outcome says.
use Rattle.std.specs.Prelude.{ℕ, Bool, true, false, cond, Result, Ok, Err, List, [], ◌∷◌, length, get_or, leb, eqb}
use Rattle.base_numbers.specs.Numbers.{most_nodes, table_bad_default, table_same_places, table_too_many_nodes, table_two_of_category}
use Rattle.base_numbers.specs.Refusals.{refusal_number}
use Rattle.base_numbers.specs.declared.refusal.Refusal.{Refusal}
use Rattle.base_lists.specs.Tests.{all, no_two}
use Rattle.theory_resolution.specs.Table.{Urn, Table, row_from, same_row}
use Rattle.theory_resolution.specs.Nodes.{nodes}

-- 9: no signal has two URNs of one category
abbrev pub same_cat : Urn → Urn → Bool
same_cat u v = eqb u.cat v.cat

unfoldable pub single : Table → Bool
single T = all (no_two same_cat) T.signals

-- 10: signal 0 has no URN
abbrev pub no_urn : List Urn → Bool
no_urn [] = true
no_urn (u ∷ us) = false

unfoldable pub zero_silent : Table → Bool
zero_silent T = no_urn (get_or T.signals 0 [])

-- 11: no two signals have the same places
abbrev pub same_places : ℕ → List Urn → List Urn → Bool
same_places n a b = same_row (row_from a 0 n) (row_from b 0 n)

unfoldable pub distinct : Table → Bool
distinct T = no_two (same_places T.cats) T.signals

-- 12: at most 64 nodes
unfoldable pub few_nodes : Table → Bool
few_nodes T = leb (length (nodes T)) most_nodes

-- the first of 9 to 12 that holds of a table, or 0
unfoldable pub verdict : Table → ℕ
verdict T = cond (single T) (cond (zero_silent T) (cond (distinct T) (cond (few_nodes T) 0 table_too_many_nodes) table_same_places) table_bad_default) table_two_of_category

-- 0, or the number of the refusal
abbrev pub number_of : {A : Type 0} → Result A Refusal → ℕ
number_of (Ok x) = 0
number_of (Err k) = refusal_number k
