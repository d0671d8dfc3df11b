use mathlib.Core.Path.{◌∙◌}
use borrow.Author.Tests.{eq-eqb}
use Rattle.resolve_early.proofs.SettledLaws.{place-of, category-shut, category-rest, rest-no, rest-on}
use Rattle.resolve_early.proofs.settled.category_keeps.Goals as goal

pub returns-then-b-eq1 : goal.returns-then-b-eq1
returns-then-b-eq1 c = eq-eqb _ _ c.if-b-eq1.true ∙ category-shut _ _ _ _ _ _ (place-of _ _ c.requires c.place_in-b.ensures) c.if-b-eq1.true

pub returns-then-held_keeps : goal.returns-then-held_keeps
returns-then-held_keeps c = category-rest _ _ _ _ _ _ (place-of _ _ c.requires c.place_in-b.ensures) c.if-b-eq1.false
    (rest-on _ _ _ _ _ _ _ c.held_keeps.ensures c.if-held_keeps.true c.signals_keep.ensures)

pub returns-else-held_keeps : goal.returns-else-held_keeps
returns-else-held_keeps c = category-rest _ _ _ _ _ _ (place-of _ _ c.requires c.place_in-b.ensures) c.if-b-eq1.false
    (c.if-held_keeps.false ∙ rest-no _ _ _ _ _ _ _ c.held_keeps.ensures c.if-held_keeps.false)
