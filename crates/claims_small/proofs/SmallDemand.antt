-- An accepted proposal's small image goes with its image, so what the demands say of such small images holds of it.
use mathlib.Core.Path.{◌≡◌}
use Rattle.table_decode.specs.Tables.{table_of}
use Rattle.machine_library.specs.Claims.{RightImage}
use Rattle.machine_library.specs.Built.{check_from}
use Rattle.machine_library.proofs.Claims.{checked}
use Rattle.theory_minimal.specs.Proposal.{Fits}
use Rattle.small_image.specs.Numbers.{small_of}
use Rattle.small_library.specs.Smaller.{machine_from}
use Rattle.small_library.proofs.Claims.{check-claim}
use Rattle.claims_demands.specs.BesideMachine.{GoesWith}
use Rattle.claims_demands.proofs.SmallLaws.{small-walks}
use Rattle.claims_demands.proofs.DemandLaws.{walk-claim, small-alike, demand-two}
use Rattle.claims_small.specs.SmallDemand.{SmallDemands}

pub small-demands : SmallDemands
small-demands t im p bytes e =
    let x : (check_from t im ≡ 0) × Fits (machine_from t im) p = (check-claim t im p).fitting.0 e in
    let r : RightImage t im = (checked t im).0 x.0 in
    let with : GoesWith t im (small_of (table_of t) im p) = (demand-two t).small-proposed im p r.form (record { byte = bytes; fits = x.1 }) in
    record {
      walks = λ before after. small-walks t im (small_of (table_of t) im p) with before after (walk-claim t r.well-formed im x.0);
      plain-alike = small-alike t r.well-formed im (small_of (table_of t) im p) x.0 with;
      machine-alike = λ v. (demand-two t).small-machine im (small_of (table_of t) im p) v r.form with;
    }
