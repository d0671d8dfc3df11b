-- What demand 3 asks of a table is met by the table of default, internal and external, so that the demand is not empty.
use Rattle.std.specs.Prelude.{◌≡◌}
use Rattle.table_decode.specs.Tables.{table_refusal}
use Rattle.machine_library.specs.Claims.{TooManyStates}
use Rattle.claims_demands.specs.Demands.{Demand3}
use Rattle.claims_demands.specs.Examples.{T1}

pub record DemandExample : Type 0 where
  pub well-formed : table_refusal T1 ≡ 0
  pub few-states : TooManyStates T1 → ⊥
  pub demand : Demand3 T1
