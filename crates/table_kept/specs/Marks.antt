-- Marks given from signal to signal, over arrays of numbers (Rows of node_step says what they must hold to stand for a table).
use Rattle.std.specs.Prelude.{ℕ, suc, ◌+◌, ◌*◌, Bool, true, false, cond, not, List, map, eqb, ltb, get_or, length, replicate}
use Rattle.base_numbers.specs.Numbers.{most_categories, most_nodes, most_signals}
use Rattle.theory_resolution.specs.Table.{Urn, Table}
use Rattle.theory_resolution.specs.Nodes.{nodes, number}
use Rattle.theory_kept.specs.Way.{first_below}
use Rattle.node_step.specs.declared.Status.TheVariants.{Open}
use Rattle.node_step.specs.declared.State.{State}
use Rattle.node_step.specs.Step.{place_in, with_place, row_at, reaches, find_row, extends, step_numbers}

-- the signal with node d for its place in category c and the places of signal s in every other, of n signals; or 32
abbrev pub with_node : List ℕ → ℕ → ℕ → ℕ → ℕ → ℕ
with_node rows n s c d = find_row rows (with_place (row_at rows s) c d) 0 n

-- the signal found, or s
abbrev pub found_or : ℕ → ℕ → ℕ
found_or s i = cond (ltb i most_signals) i s

-- the signal after node d of category c, given at signal s: the one that says it besides, if d properly extends the place of s
unfoldable pub after_node : List ℕ → List ℕ → ℕ → ℕ → ℕ → ℕ → ℕ
after_node rows ps n s c d = cond (extends ps (place_in (row_at rows s) c) d true) (found_or s (with_node rows n s c d)) s

-- the node with index k may be given before node d of category c: it is of another category, or d or an ancestor of d
unfoldable pub precedes : List ℕ → List ℕ → ℕ → ℕ → ℕ → Bool
precedes ps cats c d k = cond (eqb (get_or cats k 0) c) (reaches ps (suc k) 9 d) true

-- the signal after the node with index k, given at signal s, if it may be given
unfoldable pub next_by : List ℕ → List ℕ → List ℕ → ℕ → List Bool → ℕ → ℕ → ℕ
next_by rows ps cats n may s k = cond (get_or may k false) (after_node rows ps n s (get_or cats k 0) (suc k)) s

-- the same as stored, 64 numbers for a signal, 32 signals
unfoldable pub next_in : List ℕ → ℕ → ℕ → ℕ
next_in all s k = cond (ltb (s * most_nodes + k) 2048) (get_or all (s * most_nodes + k) 0) 0

-- the number of the first of the signals l at which node d of category c is lost, or how many they are
abbrev pub loss_at : List ℕ → ℕ → List ℕ → ℕ → ℕ → ℕ
loss_at rows n l c d = first_below (λ j. not (ltb (with_node rows n (get_or l j 0) c d) most_signals)) (length l)

-- signal s, with every category open
abbrev pub open_state : ℕ → State
open_state s = record { signal = s; categories = replicate most_categories (record { status = Open }) }

-- the signal of direct resolution after node d of category c, given at signal s with every category open
unfoldable pub rings_at : List ℕ → List ℕ → List Bool → ℕ → ℕ → ℕ → ℕ → ℕ
rings_at rows ps inner n s c d = (step_numbers rows ps inner n (open_state s) c d true).signal

-- URNs by the numbers of their nodes
abbrev pub numbers_of : Table → List Urn → List ℕ
numbers_of t us = map (λ u. number (nodes t) u.cat u.path) us
