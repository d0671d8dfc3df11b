use native.Mathlib.Omega.{arith}
use Rattle.node_search.proofs.MarkLaws.{before-found}
use Rattle.node_search.proofs.TextLaws.{text_in_lem}
use Rattle.node_search.proofs.marks.path_before.Goals as goal

pub returns-then-category-k : goal.returns-then-category-k
returns-then-category-k c = before-found _ _ _ _ _ _ _ c.loop-k.invariant c.loop-k-test.true c.if-category-k.true
    (text_in_lem _ _ _ _ _ c.text_at.ensures.result_value (omega (arith, c.requires)))
