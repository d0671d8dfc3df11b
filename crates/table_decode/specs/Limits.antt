-- How much a well-formed table can have: each limit is kept by all of them and reached by one, and one more is refused.
use Rattle.std.specs.Prelude.{ℕ, ◌≤◌, ◌≡◌, length}
use mathlib.Core.List.{List, [], ◌∷◌, map, Memᴰ}
use Rattle.theory_resolution.specs.Names.{Name}
use Rattle.theory_resolution.specs.Table.{Urn}
use Rattle.theory_resolution.specs.Nodes.{nodes}
use Rattle.base_text.specs.Text.{fields}
use Rattle.table_sections.specs.Stored.{Read, fault, got, Stored, stored}
use Rattle.table_decode.specs.Tables.{category_names, table_of, table_refusal}
use Rattle.table_decode.specs.Examples.{over_tables}

-- some well-formed table has n
abbrev pub Reached : (List ℕ → ℕ → Type 0) → ℕ → Type 0
Reached has n = (t : List ℕ) × (table_refusal t ≡ 0) × has t n

-- none has less, none has more
abbrev pub Least : (List ℕ → ℕ → Type 0) → ℕ → Type 0
Least has n = ((t : List ℕ) → table_refusal t ≡ 0 → (k : ℕ) → has t k → n ≤ k) × Reached has n

abbrev pub Most : (List ℕ → ℕ → Type 0) → ℕ → Type 0
Most has n = ((t : List ℕ) → table_refusal t ≡ 0 → (k : ℕ) → has t k → k ≤ n) × Reached has n

-- a table has n categories, signals, nodes; or a path of n parts
abbrev pub Categories : List ℕ → ℕ → Type 0
Categories t n = (table_of t).cats ≡ n

abbrev pub Signals : List ℕ → ℕ → Type 0
Signals t n = length (table_of t).signals ≡ n

abbrev pub Nodes : List ℕ → ℕ → Type 0
Nodes t n = length (nodes (table_of t)) ≡ n

abbrev pub PathOf : List ℕ → ℕ → Type 0
PathOf t n = (sig : List Urn) × Memᴰ sig (table_of t).signals × (u : Urn) × Memᴰ u sig × (length u.path ≡ n)

-- the URNs of each signal as they are stored
abbrev pub signals_read : Read Stored → List (List (List ℕ))
signals_read (fault k) = []
signals_read (got s at) = s.signals

abbrev pub StoredSignal : List ℕ → List (List ℕ) → Type 0
StoredSignal t sig = Memᴰ sig (signals_read (stored t))

-- a table has n bytes; a category with a name of n bytes; a signal with n URNs; a stored URN of n bytes; a label of n bytes, alone
-- or with `@` (64) before or behind it, as category or part
abbrev pub Bytes : List ℕ → ℕ → Type 0
Bytes t n = length t ≡ n

abbrev pub NameOf : List ℕ → ℕ → Type 0
NameOf t n = (x : Name) × Memᴰ x (category_names t) × (length x ≡ n)

abbrev pub UrnsOf : List ℕ → ℕ → Type 0
UrnsOf t n = (sig : List (List ℕ)) × StoredSignal t sig × (length sig ≡ n)

abbrev pub UrnOf : List ℕ → ℕ → Type 0
UrnOf t n = (sig : List (List ℕ)) × StoredSignal t sig × (u : List ℕ) × Memᴰ u sig × (length u ≡ n)

abbrev pub LabelOf : List ℕ → ℕ → Type 0
LabelOf t n = (sig : List (List ℕ)) × StoredSignal t sig × (u : List ℕ) × Memᴰ u sig × (x : Name) × Memᴰ x (fields 58 u) ×
    (l : List ℕ) × Memᴰ l (fields 64 x) × (length l ≡ n)

pub record Limits : Type 0 where
  pub least-categories : Least Categories 1
  pub most-categories : Most Categories 8
  pub least-signals : Least Signals 2
  pub most-signals : Most Signals 32
  pub most-nodes : Most Nodes 64
  pub least-parts : Least PathOf 1
  pub most-parts : Most PathOf 8
  pub most_bytes : Most Bytes 8192
  pub most-in-name : Most NameOf 55
  pub most-urns : Most UrnsOf 8
  pub most-in-urn : Most UrnOf 255
  pub most-in-label : Most LabelOf 27
  -- bytes, categories, bytes of a name, letters of a label twice, signals, URNs, parts
  pub over : map table_refusal over_tables ≡ 4 ∷ 6 ∷ 6 ∷ 7 ∷ 7 ∷ 6 ∷ 6 ∷ 7 ∷ []
