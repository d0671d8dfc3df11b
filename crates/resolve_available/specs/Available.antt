-- The answer among the signals that can be given just now. They are told by a set, a number with bit s for signal s.
use Rattle.std.specs.Prelude.{ℕ, ◌/◌, ◌%◌, ◌^◌, Bool, cond, List, eqb, length}
use Rattle.base_numbers.specs.Numbers.{unknown_available}
use Rattle.value_reader.specs.Value.{uris_of}
use Rattle.theory_resolution.specs.Direct.{used_of}
use Rattle.theory_resolution.specs.Available.{direct_available}
use Rattle.table_decode.specs.Tables.{table_of}
use Rattle.resolve_run.specs.Answers.{taken_as, refused, answered, unless_refused}
use Rattle.resolve_run.specs.declared.Resolution.{Resolution}

-- bit s of the set
abbrev pub has_bit : ℕ → ℕ → Bool
has_bit set s = eqb (set / 2 ^ s % 2) 1

-- each bit of the set is one of n signals: nothing is left past the n lowest bits
abbrev pub known : ℕ → ℕ → Bool
known set n = eqb (set / 2 ^ n) 0

-- direct resolution's signal over a list of URIs, where the search leaves out all other signals
abbrev pub available_signal : List ℕ → ℕ → List (List ℕ) → ℕ
available_signal t set uris = (direct_available (table_of t) (has_bit set) (used_of (taken_as t uris))).signal

-- refused as by the plain resolver (1 to 12), then for a bit that is no signal's (23); else the signal over the value's list
unfoldable pub available_of : List ℕ → ℕ → List ℕ → Resolution
available_of t set v =
    unless_refused t v (cond (known set (length (table_of t).signals)) (answered t (uris_of v) (available_signal t set (uris_of v))) (refused unknown_available))
