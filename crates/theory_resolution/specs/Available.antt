-- Resolution among the signals that can be given just now: only the search leaves the others out; what a category or a node is,
-- and which number a signal has, does not change.
use Rattle.std.specs.Prelude.{ℕ, zero, suc, ◌≤◌, ◌<◌, ◌≡◌, Bool, true, cond, ◌&&◌, get_or, length}
use Rattle.std.proofs.Math.Option.{Option, none, some}
use mathlib.Core.List.{List, [], ◌∷◌, ◌++◌, foldl}
use Rattle.theory_resolution.specs.Names.{Parts, same_parts}
use Rattle.theory_resolution.specs.Table.{Urn, Table, Row, row_from, row_of, same_row, most_parts}
use Rattle.theory_resolution.specs.Nodes.{nodes, deepest}
use Rattle.theory_resolution.specs.Direct.{Open, State, start, Env, env_by, step, direct, status_fits, changes}
use Rattle.theory_resolution.specs.NodeStep.{node_step}
use Rattle.theory_resolution.specs.Says.{Says, Given}

-- signal s is available, by a test in which signal 0 always counts
abbrev pub counts : (ℕ → Bool) → ℕ → Bool
counts on zero = true
counts on (suc s) = on (suc s)

-- the first available signal of the list, counted from i, that has these places
abbrev pub find_available_from : (ℕ → Bool) → ℕ → ℕ → List (List Urn) → Row → Option ℕ
find_available_from on n i [] r = none
find_available_from on n i (sig ∷ sigs) r = cond (counts on i && same_row (row_from sig 0 n) r) (some i) (find_available_from on n (suc i) sigs r)

-- the first available signal of the table that has these places
abbrev pub find_available : Table → (ℕ → Bool) → Row → Option ℕ
find_available t on r = find_available_from on t.cats 0 t.signals r

-- the table's places and nodes with the search among the available signals
abbrev pub env_available : Table → (ℕ → Bool) → Env
env_available t on = env_by t (find_available t on)

-- the state after a list of used URNs
abbrev pub direct_available : Table → (ℕ → Bool) → List Urn → State
direct_available t on us = foldl (step (env_available t on)) (start t.cats) us

-- signal s of the table is available and has these places
abbrev pub Stands : Table → (ℕ → Bool) → Row → ℕ → Type 0
Stands t on r s = (s < length t.signals) × (counts on s ≡ true) × (row_of t s ≡ r)

-- a state of a table with these signals available
pub record AvailableState (t : Table) (on : ℕ → Bool) (st : State) : Type 0 where
  pub live : find_available t on (row_of t st.signal) ≡ some st.signal
  pub sized : length st.status ≡ t.cats
  pub fits : (c : ℕ) → c < t.cats → status_fits (nodes t) c (get_or (row_of t st.signal) c []) (get_or st.status c Open) ≡ true

-- what holds of every well-formed table, for every set of available signals
pub record AvailableLaw (t : Table) (on : ℕ → Bool) : Type 0 where
  -- the search finds the first available signal that has these places, or there is none
  pub found : (r : Row) (s : ℕ) → find_available t on r ≡ some s → Stands t on r s × ((k : ℕ) → k < s → Stands t on r k → ⊥)
  pub not_found : (r : Row) → find_available t on r ≡ none → (s : ℕ) → Stands t on r s → ⊥
  -- with all of the table's signals available it is direct resolution
  pub all-on : ((s : ℕ) → s < length t.signals → counts on s ≡ true) → (us : List Urn) → direct_available t on us ≡ direct t us
  -- the signal given is available, and one of the table's
  pub gives : (us : List Urn) → (counts on (direct_available t on us).signal ≡ true) × ((direct_available t on us).signal < length t.signals)
  -- what it says is only given URNs or their ancestors
  pub only-given : (us : List Urn) (c : ℕ) (p : Parts) → Says t (direct_available t on us).signal c p → Given us c p
  -- what it said it still says
  pub still-says : (us vs : List Urn) (c : ℕ) (p : Parts) → Says t (direct_available t on us).signal c p → Says t (direct_available t on (us ++ vs)).signal c p
  -- it changes at most as often as the largest number of parts that one signal names
  pub few-changes : (us : List Urn) → changes (λ st. st.signal) (step (env_available t on)) (start t.cats) us ≤ most_parts t.signals
  -- the step is the one at the deepest node
  pub starts : AvailableState t on (start t.cats)
  pub stays : (st : State) (u : Urn) → AvailableState t on st → AvailableState t on (step (env_available t on) st u)
  pub direct-step : (st : State) → AvailableState t on st → (u : Urn) → u.cat < t.cats
      → step (env_available t on) st u
      ≡ node_step (env_available t on) st u.cat (deepest (nodes t) u.cat u.path) (same_parts (deepest (nodes t) u.cat u.path) u.path)
