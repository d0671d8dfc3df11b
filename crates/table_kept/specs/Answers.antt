-- What the two questions answer, whatever the bytes, the set and the number. `keeps`, `shown` and `can_ring` are tests of theory_kept;
-- specs/Claims says what they come to.
use Rattle.std.specs.Prelude.{ℕ, ◌-◌, Bool, cond, ◌||◌, List, eqb, ltb, length, replicate}
use Rattle.base_numbers.specs.Numbers.{most_signals, unknown_available, unknown_node, unknown_signal}
use Rattle.base_lists.specs.Lists.{index_by}
use Rattle.theory_resolution.specs.Table.{Urn, Table}
use Rattle.theory_resolution.specs.Nodes.{nodes, node_at}
use Rattle.theory_resolution.specs.Available.{env_available}
use Rattle.theory_kept.specs.Kept.{rung_available}
use Rattle.theory_kept.specs.Decision.{any_mark, reachable, marks_to, keeps, shown, can_ring}
use Rattle.table_kept.specs.Marks.{numbers_of}
use Rattle.table_kept.specs.Held.{padded}
use Rattle.table_decode.specs.Tables.{table_refusal, table_of}
use Rattle.resolve_available.specs.Available.{has_bit, known}
use Rattle.table_kept.specs.declared.kept.Kept.{Kept}
use Rattle.table_kept.specs.declared.rung.Rung.{Rung}

-- refused with k: all else is 0
abbrev pub refused_kept : ℕ → Kept
refused_kept k = record { refusal = k; kept = 0; rings = 0; len = 0; marks = replicate most_signals 0 }

-- the mark is kept
abbrev pub kept_answer : Kept
kept_answer = record { refusal = 0; kept = 1; rings = 0; len = 0; marks = replicate most_signals 0 }

-- it is lost: the signal that a list rings which shows it, and the numbers of its nodes with zeros after them
unfoldable pub lost_answer : ℕ → List ℕ → Kept
lost_answer signal ns = record { refusal = 0; kept = 0; rings = signal; len = length ns; marks = padded ns }

-- the answer for a node of a table, where the test says which signals are available
unfoldable pub kept_in : Table → (ℕ → Bool) → Urn → Kept
kept_in t on u =
    cond (keeps t (env_available t on) u.cat u.path) kept_answer
    (lost_answer (rung_available t on (shown t (env_available t on) u.cat u.path)) (numbers_of t (shown t (env_available t on) u.cat u.path)))

-- for any bytes, set and number: 4 to 12 by the table, then 23 for a bit that is no signal's, then 30 for a number that no node has
unfoldable pub kept_answer_of : List ℕ → ℕ → ℕ → Kept
kept_answer_of t set d =
    cond (eqb (table_refusal t) 0)
    (cond (known set (length (table_of t).signals))
    (cond (eqb d 0 || ltb (length (nodes (table_of t))) d) (refused_kept unknown_node) (kept_in (table_of t) (has_bit set) (node_at (nodes (table_of t)) (d - 1))))
    (refused_kept unknown_available))
    (refused_kept (table_refusal t))

-- refused with k: all else is 0; with 0 it is the answer where no list rings the signal
abbrev pub refused_rung : ℕ → Rung
refused_rung k = record { refusal = k; rings = 0; len = 0; marks = replicate most_signals 0 }

-- some list rings the signal: the numbers of its nodes, with zeros after them
unfoldable pub rung_answer : List ℕ → Rung
rung_answer ns = record { refusal = 0; rings = 1; len = length ns; marks = padded ns }

-- the answer for a signal of a table
unfoldable pub rung_in : Table → (ℕ → Bool) → ℕ → Rung
rung_in t on s =
    cond (can_ring t (env_available t on) s)
    (rung_answer (numbers_of t (marks_to t (env_available t on) any_mark (index_by eqb s (reachable t (env_available t on) any_mark)))))
    (refused_rung 0)

-- for any bytes, set and number: 4 to 12 by the table, then 23 for a bit that is no signal's, then 31 for a number that no signal has
unfoldable pub rung_of : List ℕ → ℕ → ℕ → Rung
rung_of t set s =
    cond (eqb (table_refusal t) 0)
    (cond (known set (length (table_of t).signals))
    (cond (ltb s (length (table_of t).signals)) (rung_in (table_of t) (has_bit set) s) (refused_rung unknown_signal))
    (refused_rung unknown_available))
    (refused_rung (table_refusal t))
