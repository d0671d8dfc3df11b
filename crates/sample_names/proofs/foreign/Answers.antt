use Rattle.sample_names.proofs.SearchLaws.{foreign-name}
use Rattle.sample_names.proofs.foreign.Goals as goal

pub returns : goal.returns
returns c = foreign-name _ _ _ _ c.first_name.ensures.value (c.new.ensures c.first_name.ensures.few)
