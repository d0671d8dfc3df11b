use Rattle.machine_symbols.proofs.StepLaws.{next_past, next-is}
use Rattle.machine_symbols.proofs.steps.next.Goals as goal

pub returns-then-k-ge-MOST_SYMBOLS : goal.returns-then-k-ge-MOST_SYMBOLS
returns-then-k-ge-MOST_SYMBOLS c = next_past _ _ _ _ _ _ _ c.if-k-ge-MOST_SYMBOLS.true

pub returns : goal.returns
returns c = next-is _ _ _ _ _ _ _ c.if-k-ge-MOST_SYMBOLS.false c.at-s.ensures c.from-c.ensures c.step_packed.ensures
