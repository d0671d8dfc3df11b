-- How the code has a carried state: the status of each category, and back to a byte for each; and the test of a record by
-- the arrays of a decoded table.
use Rattle.std.specs.Prelude.{ℕ, ◌≤◌, ◌<◌, ◌≡◌, Bool, true, cond, ◌&&◌, List, eqb, leb, ltb, length, get_or}
use Rattle.base_numbers.specs.Numbers.{most_categories, most_values}
use Rattle.base_lists.specs.Lists.{tabulate, all_below}
use Rattle.theory_resolution.specs.Table.{Table}
use Rattle.node_step.specs.declared.Progress.{Progress}
use Rattle.node_step.specs.declared.State.{State}
use Rattle.node_step.specs.Step.{status_in}
use Rattle.node_step.specs.StatusByte.{byte_of, status_of}
use Rattle.node_step.specs.StatusByte as node
use Rattle.resolve_record.specs.declared.Carried.{Carried}
use Rattle.resolve_record.specs.Record.{status_fits}

-- category c of so many has the byte b at signal s
unfoldable pub status_by : List ℕ → List ℕ → List Bool → List ℕ → ℕ → ℕ → ℕ → ℕ → ℕ → Bool
status_by rows ps inner category nodes cats s c b = cond (ltb c cats) (node.fits_by rows ps inner category nodes s c b) (eqb b 0)

-- its byte among these
abbrev pub status_at : List ℕ → List ℕ → List Bool → List ℕ → ℕ → ℕ → ℕ → List ℕ → ℕ → Bool
status_at rows ps inner category nodes cats s l c = status_by rows ps inner category nodes cats s c (get_or l c 0)

-- a record fits so many signals and categories
unfoldable pub fits_by : List ℕ → List ℕ → List Bool → List ℕ → ℕ → ℕ → ℕ → Carried → Bool
fits_by rows ps inner category nodes signals cats r =
    ltb r.signal signals && (leb r.values most_values && all_below most_categories (status_at rows ps inner category nodes cats r.signal r.status))

-- what a record has that fits a table
pub record Fits (T : Table) (r : Carried) : Type 0 where
  pub signal : r.signal < length T.signals
  pub values : r.values ≤ most_values
  pub statuses : (c : ℕ) → c < length r.status → status_fits T r c ≡ true

-- the progress that a byte says, and the byte of a category
abbrev pub progress_at : List ℕ → ℕ → Progress
progress_at l c = record { status = status_of (get_or l c 0) }

abbrev pub byte_at : List Progress → ℕ → ℕ
byte_at l c = byte_of (status_in l c)

-- the state that a record carries, and a state as it is carried after n values
abbrev pub state_with : Carried → State
state_with r = record { signal = r.signal; categories = tabulate (progress_at r.status) most_categories }

abbrev pub carried_with : State → ℕ → Carried
carried_with st n = record { signal = st.signal; status = tabulate (byte_at st.categories) most_categories; values = n }
