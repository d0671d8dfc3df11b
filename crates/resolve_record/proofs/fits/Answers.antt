use Rattle.std.proofs.Common.{arith}
use Rattle.base_lists.proofs.Chains.{all_below-is}
use Rattle.resolve_record.specs.Coded.{fits_by}
use Rattle.resolve_record.proofs.fits.Goals as goal
use Rattle.resolve_record.proofs.fits.Goals.{then-from-d, else-from-d}

pub returns-then-carried-le-MOST_VALUES-clause-says : goal.returns-then-carried-le-MOST_VALUES-clause-says
unfolding fits_by
returns-then-carried-le-MOST_VALUES-clause-says c =
    let e = all_below-is c.statuses_fit.result 8 _ c.statuses_fit.ensures in
    elim c.if-from-d.branch [ then-from-d w ↦ grind (arith, e) | else-from-d w ↦ grind (arith, e) ]
