use mathlib.Core.Path.{◌≡◌, sym, ◌∙◌}
use mathlib.Core.Bool.{true, false≢true}
use Rattle.tree_nodes.proofs.Tests.{numbers_small}
use Rattle.tree_nodes.proofs.grows.Goals as goal
use Rattle.tree_nodes.proofs.grows.Goals.{then-categories_known, else-categories_known, then-numbers_known, else-numbers_known, then-parents_right, else-parents_right}

pub scan-requires : goal.scan-requires
scan-requires c =
    let right : c.if-numbers_known.value ≡ true =
    elim c.if-parents_right.branch [ then-parents_right w ↦ w.if-parents_right.true | else-parents_right w ↦ sym w.value-is ∙ c.if-nodes_distinct.true ] in
    let known : c.if-categories_known.value ≡ true =
    elim c.if-numbers_known.branch [ then-numbers_known w ↦ w.if-numbers_known.true | else-numbers_known w ↦ sym w.value-is ∙ right ] in
    elim c.if-categories_known.branch [
      | then-categories_known w ↦ (c.requires.1, numbers_small _ _ _ w.numbers_known.ensures (sym w.value-is ∙ known) c.requires.0)
      | else-categories_known w ↦ absurd (false≢true (sym w.if-categories_known.false ∙ sym w.value-is ∙ known))
    ]
