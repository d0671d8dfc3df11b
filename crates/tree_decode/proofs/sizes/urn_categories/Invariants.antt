use Rattle.tree_decode.specs.Stages.{UrnCategories}
use Rattle.tree_decode.proofs.sizes.urn_categories.Given as goal

abbrev pub invariant-loop-i : goal.invariant-loop-i
invariant-loop-i l = UrnCategories l.s.number l.s.category l.out l.i
