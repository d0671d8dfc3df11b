-- What arrays of URNs put into rows and slots, one URN after the other, and the number that follows: whatever the arrays hold.
use Rattle.std.specs.Prelude.{ℕ, zero, suc, ◌+◌, ◌*◌, Bool, true, false, cond, ◌&&◌, List, [], get_or, set, replicate, eqb, ltb, leb}
use Rattle.base_numbers.specs.Numbers.{last_signal, last_slot, most_categories, most_signals, most_table_urns, table_bad_default, table_same_places}
use Rattle.base_numbers.specs.Numbers.{table_too_many_nodes, table_two_of_category}
use Rattle.base_lists.specs.Tests.{no_two}
use Rattle.base_lists.specs.Lists.{tabulate}
use Rattle.node_step.specs.Step.{place_in, with_place}
use Rattle.table_places.specs.Slots.{same_places_at}

-- whether every URN was put, and what is there then
pub record Filled : Type 0 where
  pub ok : Bool
  pub held : List ℕ

abbrev pub stopped : List ℕ → Filled
stopped l = record { ok = false; held = l }

-- a URN of signal s and category c with node p is put into rows, and the next ones after it; not for a signal past 31, or where the
-- place is taken
unfoldable pub put_row : (List ℕ → Filled) → (s c p : ℕ) → List ℕ → Filled
put_row next s c p rows =
    cond (ltb last_signal s) (stopped rows) (cond (eqb (place_in (get_or rows s 0) c) 0) (next (set rows s (with_place (get_or rows s 0) c p))) (stopped rows))

-- the n URNs from i on
unfoldable pub rows_from : (signal category node : List ℕ) → ℕ → ℕ → List ℕ → Filled
rows_from signal category node i zero rows = record { ok = true; held = rows }
rows_from signal category node i (suc n) rows =
    put_row (rows_from signal category node (suc i) n) (get_or signal i 0) (get_or category i 0) (get_or node i 0) rows

-- the same with slots: the k-th gets p; not past the 256th, or where it is taken
unfoldable pub put_slot : (List ℕ → Filled) → (k p : ℕ) → List ℕ → Filled
put_slot next k p slots = cond (ltb last_slot k) (stopped slots) (cond (eqb (get_or slots k 0) 0) (next (set slots k p)) (stopped slots))

unfoldable pub slots_from : (signal category : List ℕ) → ℕ → ℕ → List ℕ → Filled
slots_from signal category i zero slots = record { ok = true; held = slots }
slots_from signal category i (suc n) slots = put_slot (slots_from signal category (suc i) n) (8 * get_or signal i 0 + get_or category i 0) (suc i) slots

-- the first of m URNs, if there is one, is not of signal 0
unfoldable pub first_silent : ℕ → List ℕ → Bool
first_silent m signal = cond (eqb m 0) true (ltb 0 (get_or signal 0 0))

-- 9 if not every URN was put, 10 if signal 0 has one, 11 if two signals have the same places, else k
unfoldable pub number_by : (filled silent distinct : Bool) → ℕ → ℕ
number_by filled silent distinct k = cond filled (cond silent (cond distinct k table_same_places) table_bad_default) table_two_of_category

-- by nodes: the rows of n signals with m URNs, put as long as there is room for so many, and the number
unfoldable pub rows_by : (n m : ℕ) (signal category node rows : List ℕ) → Filled
rows_by n m signal category node rows = cond (leb n most_signals && leb m most_table_urns) (rows_from signal category node 0 m rows) (stopped rows)

unfoldable pub nodes_number : (n m : ℕ) → List ℕ → Filled → ℕ
nodes_number n m signal f = number_by f.ok (first_silent m signal) (no_two eqb (tabulate (λ s. get_or f.held s 0) n)) 0

-- by texts: the slots of n signals and so many categories, and the number
unfoldable pub slots_by : (n categories m : ℕ) (signal category : List ℕ) → Filled
slots_by n categories m signal category =
    cond (leb n most_signals && (leb m most_table_urns && leb categories most_categories)) (slots_from signal category 0 m (replicate most_table_urns 0)) (stopped [])

unfoldable pub texts_number : (t : List ℕ) (n categories m : ℕ) (signal at len : List ℕ) → Filled → ℕ
texts_number t n categories m signal at len f =
    number_by f.ok (first_silent m signal) (no_two (same_places_at t f.held at len categories) (tabulate (λ a. a) n)) table_too_many_nodes
