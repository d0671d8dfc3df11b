use mathlib.Core.Path.{◌∙◌}
use borrow.Author.Tests.{ne_eqb}
use Rattle.base_text.proofs.Cases.{small-each, small-lengths}
use Rattle.base_text.proofs.letter_case.same_lowered.Goals as goal

pub returns-then-p-s : goal.returns-then-p-s
returns-then-p-s c = let a = c.args in small-each a.s.now a.p.now c.if-p-s.true c.same_from_end.result c.same_from_end.ensures

pub returns-else-p-s : goal.returns-else-p-s
returns-else-p-s c = let a = c.args in ne_eqb _ _ c.if-p-s.false ∙ small-lengths a.s.now a.p.now c.if-p-s.false
