-- The table of all pairs of a ring table and a lamp table that share no category, of any size.
use Rattle.std.specs.Prelude.{ℕ, ◌+◌, ◌-◌, ◌*◌, ◌<◌, ◌≡◌, cond, ltb, length}
use Rattle.std.proofs.Math.Option.{Option, none, some}
use mathlib.Core.List.{List, [], ◌∷◌, ◌++◌, map, Memᴰ}
use Rattle.theory_resolution.specs.Table.{Urn, urn, Table, row_of, WellFormed}
use Rattle.theory_resolution.specs.Direct.{State, direct, used_of}

-- no two signals have the same places
abbrev pub DistinctRows : Table → Type 0
DistinctRows t = (i j : ℕ) → i < length t.signals → j < length t.signals → row_of t i ≡ row_of t j → i ≡ j

-- every URN of the table has a category of the table
abbrev pub Known : Table → Type 0
Known t = (sig : List Urn) → Memᴰ sig t.signals → (u : Urn) → Memᴰ u sig → u.cat < t.cats

-- a URN of the lamp table in the table of pairs: the lamp table's categories come after the n of the ring table
abbrev pub shifted : ℕ → Urn → Urn
shifted n u = urn (n + u.cat) u.path

-- the URNs of both
abbrev pub pair_signal : ℕ → List Urn → List Urn → List Urn
pair_signal n r l = r ++ map (shifted n) l

-- each ring signal in order, with each lamp signal in order
abbrev pub pair_signals : ℕ → List (List Urn) → List (List Urn) → List (List Urn)
pair_signals n [] ls = []
pair_signals n (r ∷ rs) ls = map (pair_signal n r) ls ++ pair_signals n rs ls

-- the table of all pairs: the ring table's categories, then the lamp table's
abbrev pub pairs : Table → Table → Table
pairs ring lamp = record { cats = ring.cats + lamp.cats; signals = pair_signals ring.cats ring.signals lamp.signals }

-- the number of the pair of ring signal r and lamp signal l
abbrev pub pair_number : Table → ℕ → ℕ → ℕ
pair_number lamp r l = r * length lamp.signals + l

-- a URI as the ring table takes it, and as the lamp table takes it: no URI is used by both.
-- The first n categories are the ring table's
abbrev pub ring_uri : ℕ → Option Urn → Option Urn
ring_uri n none = none
ring_uri n (some u) = cond (ltb u.cat n) (some u) none

abbrev pub lamp_uri : ℕ → Option Urn → Option Urn
lamp_uri n none = none
lamp_uri n (some u) = cond (ltb u.cat n) none (some (urn (u.cat - n) u.path))

-- and back: how the table of pairs takes a URI that the ring table takes so and the lamp table so
abbrev pub pair_uri : ℕ → Option Urn → Option Urn → Option Urn
pair_uri n (some u) v = some u
pair_uri n none none = none
pair_uri n none (some v) = some (shifted n v)

-- what the table of pairs takes a URI for, by what each table takes it for
abbrev pub pair_by : {W : Type 0} → ℕ → (W → Option Urn) → (W → Option Urn) → W → Option Urn
pair_by n f g w = pair_uri n (f w) (g w)

-- each table alone, over a list of URIs of the table of pairs
abbrev pub ring_alone : Table → List (Option Urn) → State
ring_alone ring l = direct ring (used_of (map (ring_uri ring.cats) l))

abbrev pub lamp_alone : Table → Table → List (Option Urn) → State
lamp_alone ring lamp l = direct lamp (used_of (map (lamp_uri ring.cats) l))

-- a state of each as one of the table of pairs
abbrev pub pair_state : Table → State → State → State
pair_state lamp r l = record { signal = pair_number lamp r.signal l.signal; status = r.status ++ l.status }

-- what holds of two well-formed tables, after every list of URIs, of any length, also empty
pub record PairLaw (ring lamp : Table) : Type 0 where
  -- there are all pairs, and each has the places of both
  pub all-pairs : length (pairs ring lamp).signals ≡ length ring.signals * length lamp.signals
  pub places : (r l : ℕ) → r < length ring.signals → l < length lamp.signals → row_of (pairs ring lamp) (pair_number lamp r l) ≡ row_of ring r ++ row_of lamp l
  -- the table of pairs is well-formed, and no two of its signals have the same places where none of either table have
  pub formed : WellFormed (pairs ring lamp)
  pub distinct : DistinctRows ring → DistinctRows lamp → DistinctRows (pairs ring lamp)
  -- the state over it is that of both: the pair of their signals, and the statuses of all categories
  pub states : (l : List (Option Urn)) → direct (pairs ring lamp) (used_of l) ≡ pair_state lamp (ring_alone ring l) (lamp_alone ring lamp l)
  -- its signal is the number of the pair that the two give alone, and of no other pair
  pub agrees : (l : List (Option Urn)) → (direct (pairs ring lamp) (used_of l)).signal ≡ pair_number lamp (ring_alone ring l).signal (lamp_alone ring lamp l).signal
  pub only : (l : List (Option Urn)) (r k : ℕ) → k < length lamp.signals → (direct (pairs ring lamp) (used_of l)).signal ≡ pair_number lamp r k
      → ((ring_alone ring l).signal ≡ r) × ((lamp_alone ring lamp l).signal ≡ k)
  -- the same by what each table takes a URI for, f and g: the ring table for URNs of its own categories, and never both
  pub agrees-by : (f g : List ℕ → Option Urn) → ((w : List ℕ) (u : Urn) → f w ≡ some u → u.cat < ring.cats) → ((w : List ℕ) (u v : Urn) → f w ≡ some u → g w ≡ some v → ⊥)
      → (ws : List (List ℕ)) → (direct (pairs ring lamp) (used_of (map (pair_by ring.cats f g) ws))).signal ≡ pair_number lamp (direct ring (used_of (map f ws))).signal (direct lamp (used_of (map g ws))).signal
