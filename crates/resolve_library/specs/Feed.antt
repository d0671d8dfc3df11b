-- Several Alert-Info values of one message, fed one after another, with a record carried between them.
use Rattle.std.specs.Prelude.{ℕ, ◌+◌, cond, eqb, Result, Ok, Err}
use mathlib.Core.List.{List, foldl}
use Rattle.base_numbers.specs.Numbers.{bad_record, most_values, too_many_values}
use Rattle.base_numbers.specs.Refusals.{refusal_number}
use Rattle.base_numbers.specs.declared.refusal.Refusal.{Refusal}
use Rattle.value_reader.specs.Value.{refusal_of, uris_of}
use Rattle.theory_resolution.specs.Direct.{State, env_of, step, used_of}
use Rattle.resolve_record.specs.Record.{state_in, carried_as, carried_fits, counted}
use Rattle.resolve_record.specs.declared.Carried.{Carried}
use Rattle.table_decode.specs.Tables.{table_refusal, table_of}
use Rattle.resolve_library.specs.declared.Fed.{Fed}
use Rattle.resolve_library.specs.Resolve.{taken_as, refused, answered}

-- refused, and nothing changes
abbrev pub unchanged : ℕ → Carried → Fed
unchanged k r = record { answer = refused k; carried = r }

-- refused, and the record counts one value more
abbrev pub only_counted : ℕ → Carried → Fed
only_counted k r = record { answer = refused k; carried = counted r }

-- the state after a list of URIs
abbrev pub state_after : List ℕ → State → List (List ℕ) → State
state_after t st uris = foldl (step (env_of (table_of t))) st (used_of (taken_as t uris))

-- an accepted value: direct resolution goes on from the carried state over its list
abbrev pub goes_on : List ℕ → Carried → List ℕ → Fed
goes_on t r v =
    record {
      answer = answered t (uris_of v) (state_after t (state_in (table_of t) r) (uris_of v)).signal;
      carried = carried_as (table_of t) (state_after t (state_in (table_of t) r) (uris_of v)) (r.values + 1);
    }

-- a value that is read: refused with 1 to 3, or accepted
abbrev pub read_from : List ℕ → Carried → List ℕ → Fed
read_from t r v = cond (eqb (refusal_of v) 0) (goes_on t r v) (only_counted (refusal_of v) r)

-- one value more: the table's number comes first, then 28, then 19, and the value's last
unfoldable pub feed_of : List ℕ → Carried → List ℕ → Fed
feed_of t r v =
    cond (eqb (table_refusal t) 0)
    (cond (carried_fits (table_of t) r) (cond (eqb r.values most_values) (unchanged too_many_values r) (read_from t r v)) (unchanged bad_record r))
    (unchanged (table_refusal t) r)

-- what is fed, or a refusal that changes nothing
abbrev pub fed_as : Carried → Result Fed Refusal → Fed
fed_as r (Ok f) = f
fed_as r (Err k) = unchanged (refusal_number k) r
