-- Demand 3 of the table of default, internal and external: its refusal number and its four states by computation.
use Prim.Native.Nat.{◌<◌}
use mathlib.Core.Path.{◌≡◌, refl}
use lib.ListN.{length}
use native.Mathlib.Omega.{arith}
use Rattle.base_lists.specs.Cuts.{past, up_to}
use Rattle.base_lists.specs.Tests.{all, any, no_two}
use Rattle.base_lists.specs.Lists.{tabulate}
use Rattle.theory_resolution.specs.Build.{discovered}
use Rattle.theory_resolution.specs.Direct.{step}
use Rattle.theory_resolution.specs.Discovery.{discover, expand}
use Rattle.theory_resolution.specs.Nodes.{leaf, nodes}
use Rattle.theory_resolution.proofs.Theorems.{build-law}
use Rattle.base_text.specs.Text.{fields, on_first}
use Rattle.urn_names.specs.Names.{label_byte, label_ok, name_ok}
use Rattle.urn_names.specs.Urn.{no_capital, stored_name, urn_ok}
use Rattle.table_sections.specs.Stored.{and_then, byte_in, counted, stored, stored_from, text, times}
use Rattle.table_decode.specs.Tables.{distinct, few_nodes, formed, is_listed, judged, judged_read, listed, zero_silent, single, table_of, table_read}
use Rattle.table_decode.specs.Tables.{table_refusal, uses, verdict}
use Rattle.machine_library.specs.Claims.{TooManyStates}
use Rattle.claims_demands.specs.Examples.{T1}
use Rattle.claims_demands.specs.DemandExample.{DemandExample}
use Rattle.claims_demands.proofs.DemandLaws.{demand-three}

well-formed : table_refusal T1 ≡ 0
unfolding all fields label_byte label_ok name_ok on_first past up_to no_capital stored_name urn_ok and_then byte_in counted stored stored_from text
    times any distinct few_nodes formed is_listed judged judged_read listed no_two zero_silent single table_refusal uses verdict nodes
well-formed = refl

four-states : length (discovered (table_of T1) 256) ≡ 4
unfolding fields on_first past up_to and_then byte_in counted stored stored_from text times table_of table_read step discover expand tabulate leaf nodes
four-states = refl

few-states : TooManyStates T1 → ⊥
few-states h = let over : 256 < length (discovered (table_of T1) 256) = (build-law (table_of T1) 256).found-over h in omega (arith, over, four-states)

pub demand-example : DemandExample
demand-example = record { well-formed = well-formed; few-states = few-states; demand = demand-three T1 well-formed few-states }
