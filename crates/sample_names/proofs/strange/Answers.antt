use Rattle.sample_names.proofs.SearchLaws.{strange-name}
use Rattle.sample_names.proofs.strange.Goals as goal

pub returns : goal.returns
returns c = strange-name _ _ _ _ _ _ c.first_part.ensures.value (c.new.ensures c.first_part.ensures.few)
