use Rattle.resolve_early.proofs.SettledLaws.{beside-is}
use Rattle.resolve_early.proofs.settled.is_beside.Goals as goal

pub returns : goal.returns
returns c = beside-is _ _ _ c.requires c.place_in.ensures c.with_place.ensures
