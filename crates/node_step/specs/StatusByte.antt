-- Statuses as the image of a machine stores them, and all of a state's in one number.
use Rattle.std.specs.Prelude.{ℕ, zero, suc, ◌+◌, ◌-◌, ◌*◌, min, Bool, true, false, cond, ◌&&◌, List, Option, Some, None, get_or, set, replicate, eqb, ltb, leb}
use Rattle.base_numbers.specs.Numbers.{most_categories, most_nodes}
use Rattle.node_step.specs.declared.Progress.{Progress}
use Rattle.node_step.specs.declared.Status.{Status}
use Rattle.node_step.specs.declared.Status.TheVariants.{Open, Held, Shut}
use Rattle.node_step.specs.declared.State.{State}
use Rattle.node_step.specs.declared.Hit.{Hit}
use Rattle.node_step.specs.declared.stored.Packed.{Packed}
use Rattle.node_step.specs.Step.{digit, put, row_at, extends, status_in, status_from, step_numbers}

-- 0 open, 1 shut, 1 + n held at node n, which is at most 64
abbrev pub byte_of : Status → ℕ
byte_of Open = 0
byte_of (Held n) = cond (ltb n 255) (n + 1) 255
byte_of Shut = 1

-- the status that a byte stores
abbrev pub status_of : ℕ → Status
status_of b = cond (eqb b 0) Open (cond (eqb b 1) Shut (Held (b - 1)))

-- the bytes of the n categories from c on as digits to the base 256, the first lowest
unfoldable pub packed : List Progress → ℕ → ℕ → ℕ
packed l c zero = 0
packed l c (suc n) = byte_of (status_in l c) + 256 * packed l (suc c) n

-- eight categories, the first n by their bytes in x
unfoldable pub unpacked : ℕ → ℕ → List Progress
unpacked x zero = replicate most_categories (record { status = Open })
unpacked x (suc n) = set (unpacked x n) n (record { status = status_of (digit x n) })

-- a state with its categories' bytes in one number
abbrev pub packed_of : State → Packed
packed_of st = record { signal = st.signal; statuses = packed st.categories 0 most_categories }

-- and the state that it is
abbrev pub of_packed : Packed → State
of_packed st = record { signal = st.signal; categories = unpacked st.statuses most_categories }

-- two of them are the same
unfoldable pub same_packed : Packed → Packed → Bool
same_packed a b = eqb a.signal b.signal && eqb a.statuses b.statuses

-- the step over them
unfoldable pub step_packed : List ℕ → List ℕ → List Bool → ℕ → Packed → ℕ → ℕ → Bool → Packed
step_packed rows ps inner n st c d whole = packed_of (step_numbers rows ps inner n (of_packed st) c d whole)

-- the state after the search: the signal found, and the new byte of c
unfoldable pub moved_packed : List Bool → Packed → ℕ → ℕ → Bool → Option Hit → Packed
moved_packed inner st c d whole None = st
moved_packed inner st c d whole (Some h) =
    record { signal = h.signal; statuses = put st.statuses c (byte_of (status_from inner d whole h.node)) }

-- a byte of category c at signal s: 0, 1, or 1 + n for a node n of c that has nodes under it and lies beyond the place of s
unfoldable pub fits_by : List ℕ → List ℕ → List Bool → List ℕ → ℕ → ℕ → ℕ → ℕ → Bool
fits_by rows ps inner category n s c b =
    cond (leb b 1) true
    (cond (leb most_categories c) false
    (cond (ltb (b - 2) (min n most_nodes))
    (eqb (get_or category (b - 2) 0) c && (get_or inner (b - 2) false && extends ps (digit (row_at rows s) c) (b - 1) true))
    false))
