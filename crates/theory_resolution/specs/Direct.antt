-- Direct resolution: the state, one step, and the fold over a list of URIs, used and skipped.
use Rattle.std.specs.Prelude.{ℕ, suc, ◌+◌, ◌<◌, ◌≡◌, ◌≢◌, Bool, true, false, ◌&&◌, eqb, get_or, set, length, replicate}
use Rattle.std.proofs.Math.Option.{Option, none, some}
use mathlib.Core.List.{List, [], ◌∷◌, foldl, Memᴰ}
use Rattle.base_lists.specs.Lists.{same_list}
use Rattle.theory_resolution.specs.Names.{Parts, same_parts, below, proper_ancestor, candidates}
use Rattle.theory_resolution.specs.Table.{Urn, Table, Row, row_of, find}
use Rattle.theory_resolution.specs.Nodes.{nodes, is_inner}

-- what is kept of the last URN that a category took, by its path: the category is open at its place, held at that path, or shut for good
pub data Status : Type 0 where
  Open : Status
  Held : Parts → Status
  Shut : Status

-- the current signal, and a status for each category
pub record State : Type 0 where
  pub signal : ℕ
  pub status : List Status

-- before the first URN: signal 0, nothing shut or held
abbrev pub start : ℕ → State
start n = record { signal = 0; status = replicate n Open }

-- what a step needs of a table: each signal's places, the search for a signal by its places, and which paths of a
-- category are nodes with nodes under them
pub record Env : Type 0 where
  pub rows : ℕ → Row
  pub finder : Row → Option ℕ
  pub inner : ℕ → Parts → Bool

-- a table's places and nodes with another search
abbrev pub env_by : Table → (Row → Option ℕ) → Env
env_by t finder = record { rows = row_of t; finder = finder; inner = is_inner (nodes t) }

-- the search among all of the table's signals
abbrev pub env_of : Table → Env
env_of t = env_by t (find t)

-- a signal that was found, with the path at which it was
pub record Hit : Type 0 where
  pub at : Parts
  pub signal : ℕ

-- the signal at p, if there is one, else the rest
abbrev pub found : Parts → Option ℕ → Option Hit → Option Hit
found p none rest = rest
found p (some s) rest = some (record { at = p; signal = s })

-- the first of the paths for which there is a signal with that place in c and the row's places in every other category
abbrev pub first_hit : Env → Row → ℕ → List Parts → Option Hit
first_hit env row c [] = none
first_hit env row c (p ∷ ps) = found p (env.finder (set row c p)) (first_hit env row c ps)

-- a category with this status and place takes the URN u: u properly extends the path that the category remembers
abbrev pub takes_urn : Status → Parts → Parts → Bool
takes_urn Open p u = proper_ancestor p u
takes_urn (Held w) p u = proper_ancestor w u
takes_urn Shut p u = false

-- held at u, if it is a node with nodes under it, else shut
abbrev pub held_if : Bool → Parts → Status
held_if true u = Held u
held_if false u = Shut

-- open if the URN was said whole, else the other status
abbrev pub open_or : Bool → Status → Status
open_or true s = Open
open_or false s = s

-- a category's status after u was taken and the signal found at h: open if that is u itself, else held at u or shut
abbrev pub status_after : Env → ℕ → Parts → Hit → Status
status_after env c u h = open_or (same_parts h.at u) (held_if (env.inner c u) u)

-- the signal found becomes current; with none found, nothing changes
abbrev pub move : Env → State → ℕ → Parts → Option Hit → State
move env st c u none = st
move env st c u (some h) = record { signal = h.signal; status = set st.status c (status_after env c u h) }

-- if u is taken: the longest candidate between the present place and u, by what is left of u after that place
abbrev pub if_taken : Env → State → ℕ → Parts → Bool → Option Parts → State
if_taken env st c u false rest = st
if_taken env st c u true none = st
if_taken env st c u true (some r) = move env st c u (first_hit env (env.rows st.signal) c (candidates (get_or (env.rows st.signal) c []) r))

-- the state after one used URN
unfoldable pub step : Env → State → Urn → State
step env st u =
    if_taken env st u.cat u.path
    (takes_urn (get_or st.status u.cat Open) (get_or (env.rows st.signal) u.cat []) u.path)
    (below (get_or (env.rows st.signal) u.cat []) u.path)

-- the state after a list of used URNs, from left to right
abbrev pub direct : Table → List Urn → State
direct t us = foldl (step (env_of t)) (start t.cats) us

-- a status that category c can have at its place p: it is held only at a node beyond p that has nodes under it
abbrev pub status_fits : List Urn → ℕ → Parts → Status → Bool
status_fits ns c p Open = true
status_fits ns c p (Held w) = proper_ancestor p w && is_inner ns c w
status_fits ns c p Shut = true

-- a state of a table: the search finds its signal at the signal's own places, and there is a status for each category,
-- one that it can have
pub record StateOf (t : Table) (st : State) : Type 0 where
  pub live : find t (row_of t st.signal) ≡ some st.signal
  pub sized : length st.status ≡ t.cats
  pub fits : (c : ℕ) → c < t.cats → status_fits (nodes t) c (get_or (row_of t st.signal) c []) (get_or st.status c Open) ≡ true

-- a used URN of a table: its category is one of the table's, and its path has a part
pub record Used (t : Table) (u : Urn) : Type 0 where
  pub known : u.cat < t.cats
  pub some-part : u.path ≢ []

-- a list of URIs: some u for a used one with its URN, none for a skipped one
abbrev pub used_of : List (Option Urn) → List Urn
used_of [] = []
used_of (none ∷ l) = used_of l
used_of (some u ∷ l) = u ∷ used_of l

-- how many are used
abbrev pub used_count : List (Option Urn) → ℕ
used_count l = length (used_of l)

-- and how many skipped
abbrev pub skipped_count : List (Option Urn) → ℕ
skipped_count [] = 0
skipped_count (none ∷ l) = suc (skipped_count l)
skipped_count (some u ∷ l) = skipped_count l

-- every URI of the list is a used one of the table, or skipped
abbrev pub AllUsed : Table → List (Option Urn) → Type 0
AllUsed t l = (u : Urn) → Memᴰ u (used_of l) → Used t u

-- a step by a URI: a skipped one changes nothing
abbrev pub step_uri : {S : Type 0} → (S → Urn → S) → S → Option Urn → S
step_uri next s none = s
step_uri next s (some u) = next s u

-- 1 for a change, by the test whether the signal is the same
abbrev pub changed : Bool → ℕ
changed true = 0
changed false = 1

-- how often the signal changes over a list: once for each element that gives it another number
abbrev pub changes : {S A : Type 0} → (S → ℕ) → (S → A → S) → S → List A → ℕ
changes signal_of next s [] = 0
changes signal_of next s (a ∷ l) = changed (eqb (signal_of (next s a)) (signal_of s)) + changes signal_of next (next s a) l

abbrev pub same_status : Status → Status → Bool
same_status Open Open = true
same_status Open (Held w) = false
same_status Open Shut = false
same_status (Held v) Open = false
same_status (Held v) (Held w) = same_parts v w
same_status (Held v) Shut = false
same_status Shut Open = false
same_status Shut (Held w) = false
same_status Shut Shut = true

-- the same signal and the same statuses
abbrev pub same_state : State → State → Bool
same_state a b = eqb a.signal b.signal && same_list same_status a.status b.status
