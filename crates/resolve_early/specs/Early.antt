-- The early answer: the signal, as soon as no further URN could change it.
use Rattle.std.specs.Prelude.{ℕ, Bool, cond, ◌&&◌, ◌||◌, List, eqb, leb, length}
use Rattle.std.proofs.Math.Option.{Option}
use Rattle.base_numbers.specs.Numbers.{most_entries, most_value_bytes}
use Rattle.theory_resolution.specs.Table.{Urn, Table}
use Rattle.theory_resolution.specs.Direct.{State}
use Rattle.theory_resolution.specs.Settled.{is_settled, needed, after_first}
use Rattle.table_decode.specs.Tables.{table_refusal, table_of}
pub use Rattle.resolve_run.specs.Answers.{taken_as, number_of}
use Rattle.resolve_early.specs.FirstEntries.{Front, front_from, first_of, uris_in}
use Rattle.resolve_early.specs.declared.Early.{Early}

-- a refused question has signal 0 and no entries
abbrev pub refused : ℕ → Early
refused k = record { refusal = k; signal = 0; entries = 0 }

-- the state after the URIs that are needed
abbrev pub reached : Table → List (Option Urn) → State
reached T l = after_first T l (needed T l)

-- they are enough: that state is settled, or the value ends with them
abbrev pub enough : Table → List (Option Urn) → Bool → Bool
enough T l ended = ended || is_settled T (reached T l)

-- if so, its signal and their number, else refused with k
abbrev pub answer_for : Table → List (Option Urn) → Bool → ℕ → Early
answer_for T l ended k = cond (enough T l ended) (record { refusal = 0; signal = (reached T l).signal; entries = needed T l }) (refused k)

-- the entries that are read before any fault and before a 65th
abbrev pub read_of : List ℕ → Front
read_of v = first_of most_entries (front_from v 0)

-- if neither the value is too long (1) nor the table refused (4 to 12): what the entries read are enough for
unfoldable pub early_of : List ℕ → List ℕ → Early
early_of t v =
    cond (leb (length v) most_value_bytes && eqb (table_refusal t) 0)
    (answer_for (table_of t) (taken_as t (uris_in v (read_of v))) (read_of v).ended (number_of t v))
    (refused (number_of t v))
