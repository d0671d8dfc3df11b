-- The signals' URNs in arrays, one after the other; the slot of a signal and category, and the places that the slots say.
use Rattle.std.specs.Prelude.{ℕ, zero, suc, ◌+◌, ◌*◌, ◌-◌, ◌≤◌, ◌<◌, ◌≡◌, Bool, false, cond, ◌&&◌, List, length, get_or, eqb}
use Rattle.base_numbers.specs.Numbers.{most_categories, most_nodes, most_signals, most_table_urns}
use Rattle.base_lists.specs.Cuts.{stretch}
use Rattle.base_lists.specs.Tests.{all}
use Rattle.base_lists.specs.Lists.{tabulate}
use Rattle.theory_resolution.specs.Names.{Parts, same_name}
use Rattle.theory_resolution.specs.Table.{Urn, urn, Table, row_of}
use Rattle.theory_resolution.specs.Nodes.{nodes, number}
use Rattle.node_step.specs.Rows.{pack, numbers_from}
use Rattle.table_sections.specs.Held.{Tagged, tag, tagged_from, Padded}
use Rattle.table_places.specs.Verdict.{verdict}

-- the i-th URN, with its signal
abbrev pub urn_of : List ℕ → List ℕ → (ℕ → Parts) → ℕ → Tagged Urn
urn_of signal category path i = tag (get_or signal i 0) (urn (get_or category i 0) (path i))

-- the arrays say the m URNs of the n signals of T, in order
pub record Listing (T : Table) (signal category : List ℕ) (path : ℕ → Parts) (n m : ℕ) : Type 0 where
  pub signals : length T.signals ≡ n
  pub urns : tabulate (urn_of signal category path) m ≡ tagged_from 0 T.signals
  pub known : (i : ℕ) → i < m → get_or category i 0 < T.cats
  pub few-categories : T.cats ≤ most_categories
  pub few-signals : n ≤ most_signals
  pub few-urns : m ≤ most_table_urns

-- each URN has a node, with its number, and there are not too many
pub record Numbering (T : Table) (category : List ℕ) (path : ℕ → Parts) (node : List ℕ) (m : ℕ) : Type 0 where
  pub no-root : (i : ℕ) → i < m → 0 < get_or node i 0
  pub numbers : (i : ℕ) → i < m → get_or node i 0 ≡ number (nodes T) (get_or category i 0) (path i)
  pub few-nodes : length (nodes T) ≤ most_nodes

-- the answer for a table: its number; and if it is not refused, the places of its n signals, and nothing after them
pub record Placed (T : Table) (rows : List ℕ) (n : ℕ) (r : ℕ) : Type 0 where
  pub refusal : r ≡ verdict T
  pub packed : r ≡ 0 → (s : ℕ) → s < n → get_or rows s 0 ≡ pack (numbers_from (nodes T) 0 (row_of T s))
  pub past : r ≡ 0 → Padded most_signals n rows

-- the m signals and categories are such as a table can have
abbrev pub InRange : List ℕ → List ℕ → ℕ → Type 0
InRange signal category m = ((i : ℕ) → i < m → get_or signal i 0 < most_signals) × ((i : ℕ) → i < m → get_or category i 0 < most_categories)

-- the signal and the category of the i-th URN
abbrev pub key_at : List ℕ → List ℕ → ℕ → Tagged ℕ
key_at signal category i = tag (get_or signal i 0) (get_or category i 0)

abbrev pub same_key : Tagged ℕ → Tagged ℕ → Bool
same_key x y = eqb x.signal y.signal && eqb x.what y.what

-- one more than the number of the last of n that is of signal s and category c, or 0
unfoldable pub slot_in : (ℕ → Tagged ℕ) → ℕ → ℕ → ℕ → ℕ
slot_in f s c zero = 0
slot_in f s c (suc n) = cond (same_key (tag s c) (f n)) (suc n) (slot_in f s c n)

-- the number of the node of the last of n URNs that is of signal s and category c, or 0
unfoldable pub node_in : (ℕ → Tagged ℕ) → List ℕ → ℕ → ℕ → ℕ → ℕ
node_in f node s c zero = 0
node_in f node s c (suc n) = cond (same_key (tag s c) (f n)) (get_or node n 0) (node_in f node s c n)

-- the places of signal s by n URNs, in one number
abbrev pub row_in : (ℕ → Tagged ℕ) → List ℕ → ℕ → ℕ → ℕ
row_in f node s n = pack (tabulate (λ c. node_in f node s c n) most_categories)

-- rows without a place, to be filled by m URNs that each have a node, as a table can have them
abbrev pub Fillable : (signal category node rows : List ℕ) (m : ℕ) → Type 0
Fillable signal category node rows m = InRange signal category m × ((i : ℕ) → i < m → (0 < get_or node i 0) × (get_or node i 0 ≤ most_nodes)) × Padded most_signals 0 rows

-- the paths of two slots are the same, or both are empty
unfoldable pub same_slots : List ℕ → List ℕ → List ℕ → ℕ → ℕ → Bool
same_slots t at len x y = cond (eqb x 0) (eqb y 0) (cond (eqb y 0) false (same_name (stretch t at len (x - 1)) (stretch t at len (y - 1))))

-- signals a and b have the same paths in n slots
abbrev pub same_places_at : List ℕ → List ℕ → List ℕ → List ℕ → ℕ → ℕ → ℕ → Bool
same_places_at t slots at len n a b = all (λ c. same_slots t at len (get_or slots (8 * a + c) 0) (get_or slots (8 * b + c) 0)) (tabulate (λ c. c) n)
