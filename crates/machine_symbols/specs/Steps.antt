-- States with their statuses in one number, and the step of a symbol.
use Rattle.std.specs.Prelude.{ℕ, ◌+◌, ◌*◌, Bool, cond, List, eqb, ltb, get_or}
use Rattle.base_numbers.specs.Numbers.{most_symbols}
use Rattle.node_step.specs.StatusByte.{step_packed}
use Rattle.node_step.specs.declared.stored.Packed.{Packed}

-- signal 0 with every category open
abbrev pub begin : Packed
begin = record { signal = 0; statuses = 0 }

-- the state after symbol k of those in sy, of which there are at most 128
unfoldable pub next_state : List ℕ → List ℕ → List Bool → ℕ → List ℕ → Packed → ℕ → Packed
next_state rows ps inner n sy st k =
    cond (ltb k most_symbols) (step_packed rows ps inner n st (get_or sy (3 * k) 0) (get_or sy (3 * k + 1) 0) (eqb (get_or sy (3 * k + 2) 0) 0)) st
