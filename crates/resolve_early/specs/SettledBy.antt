-- Whether a state is settled, on node numbers: a signal can only become another one that differs from it in one category.
use Rattle.std.specs.Prelude.{ℕ, ◌-◌, min, Bool, true, false, cond, ◌&&◌, List, eqb, leb, get_or}
use Rattle.base_numbers.specs.Numbers.{most_categories, most_signals}
use Rattle.base_lists.specs.Lists.{all_below}
use Rattle.node_step.specs.Step.{digit, put, row_at}
use Rattle.node_step.specs.StatusByte.{step_packed}
use Rattle.node_step.specs.declared.stored.Packed.{Packed}

-- the step in category c, at the node or root d, keeps the signal
unfoldable pub keeps_at : List ℕ → List ℕ → List Bool → ℕ → Packed → ℕ → ℕ → Bool → Bool
keeps_at rows ps inner n st c d whole = eqb (step_packed rows ps inner n st c d whole).signal st.signal

-- two signals, by their places, differ in no category but c
unfoldable pub beside : ℕ → ℕ → ℕ → Bool
beside row other c = eqb (put row c (digit other c)) other

-- a signal differs in other categories too, or its place in c keeps the current signal
unfoldable pub beside_keeps : List ℕ → List ℕ → List Bool → ℕ → Packed → ℕ → ℕ → ℕ → Bool
beside_keeps rows ps inner n st c row other = cond (beside row other c) (keeps_at rows ps inner n st c (digit other c) true) true

-- the same of signal s
unfoldable pub signal_keeps : List ℕ → List ℕ → List Bool → ℕ → Packed → ℕ → ℕ → Bool
signal_keeps rows ps inner n st c s = beside_keeps rows ps inner n st c (row_at rows st.signal) (get_or rows s 0)

-- what is no node under the node at which c is held keeps the signal; b is the status byte of c
unfoldable pub held_keeps : List ℕ → List ℕ → List Bool → ℕ → Packed → ℕ → ℕ → Bool
held_keeps rows ps inner n st c b = cond (leb b 1) true (keeps_at rows ps inner n st c (b - 1) false)

-- no URN of category c leads to another signal: c is shut, or all of these keep it
unfoldable pub category_keeps : List ℕ → List ℕ → List Bool → ℕ → Packed → ℕ → Bool
category_keeps rows ps inner n st c =
    cond (eqb (digit st.statuses c) 1) true
    (held_keeps rows ps inner n st c (digit st.statuses c) && all_below (min n most_signals) (signal_keeps rows ps inner n st c))

-- no URN of the k categories does
unfoldable pub settled_by : List ℕ → List ℕ → List Bool → ℕ → ℕ → Packed → Bool
settled_by rows ps inner n k st = all_below (min k most_categories) (category_keeps rows ps inner n st)
