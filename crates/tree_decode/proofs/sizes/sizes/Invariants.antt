use Prim.Native.Nat.{suc}
use lib.ListN.{length, get_or}
use Rattle.base_lists.specs.Cuts.{stretch}
use Rattle.tree_decode.specs.Stages.{FromParent}
use Rattle.tree_decode.proofs.Filling.{Bounded}
use Rattle.tree_decode.proofs.sizes.sizes.Given as goal

abbrev pub invariant-loop-i : goal.invariant-loop-i
invariant-loop-i l = let i = l.i in FromParent l.s.parent (λ i. length (stretch l.t l.s.name_at l.s.name_len (get_or l.s.category i 0))) (λ i. suc (length (stretch l.t l.s.at l.s.len i))) l.out i × Bounded l.out i
