-- What a resolver answers: a refusal number, or a signal with the numbers of used and skipped URIs.
use Rattle.std.specs.Prelude.{ℕ, cond, List, map, eqb}
use Rattle.std.proofs.Math.Option.{Option}
use Rattle.value_reader.specs.Value.{refusal_of}
use Rattle.theory_resolution.specs.Table.{Urn}
use Rattle.theory_resolution.specs.Direct.{used_count, skipped_count}
use Rattle.node_search.specs.Uses.{used_urn}
use Rattle.table_decode.specs.Tables.{table_refusal, category_names}
use Rattle.resolve_run.specs.declared.Resolution.{Resolution}

-- a list of URIs as a stored table takes them: a used one with its URN, or skipped
abbrev pub taken_as : List ℕ → List (List ℕ) → List (Option Urn)
taken_as t uris = map (used_urn (category_names t)) uris

-- the number with which the plain resolver refuses: the value's (1 to 3), else the table's (4 to 12), or 0
abbrev pub number_of : List ℕ → List ℕ → ℕ
number_of t v = cond (eqb (refusal_of v) 0) (table_refusal t) (refusal_of v)

-- refused: all zero but the number
abbrev pub refused : ℕ → Resolution
refused k = record { refusal = k; signal = 0; used = 0; skipped = 0 }

-- a signal with the numbers of used and skipped URIs
abbrev pub answered : List ℕ → List (List ℕ) → ℕ → Resolution
answered t uris s =
    record { refusal = 0; signal = s; used = used_count (taken_as t uris); skipped = skipped_count (taken_as t uris) }

-- an answer where neither the value (1 to 3) nor the table (4 to 12) is refused
abbrev pub unless_refused : List ℕ → List ℕ → Resolution → Resolution
unless_refused t v r =
    cond (eqb (refusal_of v) 0) (cond (eqb (table_refusal t) 0) r (refused (table_refusal t))) (refused (refusal_of v))
