-- What a build and a check answer for a stored table, for all bytes.
use Rattle.std.specs.Prelude.{ℕ, cond, List, eqb, replicate}
use Rattle.base_bytes.specs.Built.{refused}
use Rattle.machine_image.specs.Refusals.{buffer_of, check_of}
use Rattle.table_decode.specs.Tables.{table_of, table_refusal}
use Rattle.base_bytes.specs.declared.Built.{Built}
use Rattle.machine_build.specs.Built.{built_of}

-- the answer for a stored table: its own refusal comes first
unfoldable pub built_from : List ℕ → ℕ → Built
built_from t room = cond (eqb (table_refusal t) 0) (built_of (table_of t) room) (refused (table_refusal t))

-- the whole buffer after the build
unfoldable pub buffer_from : List ℕ → ℕ → List ℕ
buffer_from t room = cond (eqb (table_refusal t) 0) (buffer_of (table_of t) room) (replicate room 0)

-- what the checker says of an image for a stored table
unfoldable pub check_from : List ℕ → List ℕ → ℕ
check_from t im = cond (eqb (table_refusal t) 0) (check_of (table_of t) im) (table_refusal t)
