use Rattle.node_step.proofs.StepLaws.{step-by-hit}
use Rattle.node_step.proofs.step.Goals as goal

pub returns-then-c-lt-MOST_CATEGORIES : goal.returns-then-c-lt-MOST_CATEGORIES
returns-then-c-lt-MOST_CATEGORIES c = step-by-hit _ _ _ _ _ _ _ _ c.if-c-lt-MOST_CATEGORIES.true c.hit_for.ensures c.moved_by.ensures
