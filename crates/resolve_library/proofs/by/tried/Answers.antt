use Rattle.resolve_run.proofs.AnswerLaws.{ended-by}
use Rattle.resolve_library.proofs.ByTableLaws.{tried-by}
use Rattle.resolve_library.proofs.by.tried.Goals as goal

pub returns : goal.returns
returns c = tried-by _ _ _ (ended-by _ _ _ c.direct-e.ensures c.at_start.ensures) c.tries.ensures c.with_tries.ensures
