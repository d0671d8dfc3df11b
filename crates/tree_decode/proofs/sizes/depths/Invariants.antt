use Rattle.tree_decode.specs.Stages.{FromParent}
use Rattle.tree_decode.proofs.Filling.{Bounded}
use Rattle.tree_decode.proofs.sizes.depths.Given as goal

abbrev pub invariant-loop-i : goal.invariant-loop-i
invariant-loop-i l = let i = l.i in FromParent l.s.parent (λ i. 0) (λ i. 1) l.out i × Bounded l.out i
