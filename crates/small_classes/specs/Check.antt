-- What the check and the proposer answer for any rows of bytes.
use Rattle.std.specs.Prelude.{ℕ, Bool, true, false, cond, ◌&&◌, List, eqb, length}
use Rattle.std.proofs.Math.Option.{Option, none, some}
use Rattle.theory_minimal.specs.Refine.{classes}
use Rattle.theory_minimal.specs.Test.{fits, proposed}
use Rattle.small_rounds.specs.Stored.{stored_machine, is_stored}

-- there is a machine in the rows, and the proposal fits it
unfoldable pub stored_fits : List ℕ → ℕ → ℕ → ℕ → List ℕ → Bool
stored_fits rows n head k p = is_stored rows n head k && fits (stored_machine rows n head k) p

-- the proposal for the machine in the rows
unfoldable pub stored_proposed : List ℕ → ℕ → ℕ → ℕ → Option (List ℕ)
stored_proposed rows n head k = cond (is_stored rows n head k) (proposed (stored_machine rows n head k)) none

-- there is one
abbrev pub is_some : Option (List ℕ) → Bool
is_some none = false
is_some (some p) = true

-- whether the proposer finds one, with the list b to write it to
unfoldable pub proposes : List ℕ → ℕ → ℕ → ℕ → List ℕ → Bool
proposes rows n head k b = eqb (length b) n && is_some (stored_proposed rows n head k)

-- what the list has after it: the classes of the machine's states, numbered by their first states, whether each is reached or not; what it
-- had if it has another length or there is no machine
unfoldable pub classes_in : List ℕ → ℕ → ℕ → ℕ → List ℕ → List ℕ
classes_in rows n head k b = cond (eqb (length b) n && is_stored rows n head k) (classes (stored_machine rows n head k)) b
