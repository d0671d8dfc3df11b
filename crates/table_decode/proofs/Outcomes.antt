-- What the two cases of the answer of `decode` say of the table's number.
use Prim.Native.Nat.{ℕ, ◌<◌}
use mathlib.Core.Path.{◌≡◌, sym}
use mathlib.Core.List.{List}
use native.Mathlib.Omega.{arith}
use Rattle.std.specs.Prelude.{Result, Ok, Err}
use Rattle.base_numbers.specs.declared.refusal.Refusal.{Refusal}
use Rattle.base_numbers.proofs.Refusals.{refusal-some}
use Rattle.node_search.specs.declared.decoded.Decoded.{Decoded}
use Rattle.table_places.specs.Verdict.{number_of}
use Rattle.table_decode.specs.Tables.{table_refusal}
use Rattle.table_decode.specs.Decoded.{Means}

-- the answer's number is the table's
pub means-number : (t : List ℕ) (r : Result Decoded Refusal) → Means t r → number_of r ≡ table_refusal t
means-number t (Ok d) m = sym m.refusal
means-number t (Err k) m = m

-- a table that is refused is not told 0
pub refused-some : (t : List ℕ) (k : Refusal) → Means t (Err k) → 0 < table_refusal t
refused-some t k m = omega (arith, m, refusal-some k)
