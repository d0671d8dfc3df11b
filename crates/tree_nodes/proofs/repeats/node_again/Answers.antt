use Prim.Native.Nat.{ℕ}
use native.Mathlib.Omega.{arith}
use mathlib.Core.Bool.{Bool}
use mathlib.Core.Path.{◌≡◌, refl, ◌∙◌}
use Rattle.std.proofs.Common.{rules}
use Rattle.std.proofs.lemmas.Iterator.{YieldsList-from_range}
use Rattle.std.proofs.lemmas.Iterator.Search.{any_from_yields_List}
use Rattle.std.specs.List.{list_any, range_with_len}
use Rattle.tree_sections.specs.Tree.{Node}
use Rattle.tree_sections.specs.Held.{node_from}
use Rattle.tree_nodes.specs.Scan.{same_node}
use Rattle.tree_nodes.proofs.Ranges.{any_from_zero}
use Rattle.tree_nodes.proofs.repeats.node_again.Goals as goal

pub returns : goal.returns
returns c = let s = c.args.s.now in
    let f = node_from c.args.t.now s.category s.parent s.at s.len in
    let q : Node → Bool = λ y. same_node y (f c.args.i) in
    let p : ℕ → Bool = λ j. same_node (f j) (f c.args.i) in
    let e : c.any.result ≡ list_any p (range_with_len 0 c.args.i) =
    any_from_yields_List p _ _ _ c.any.ensures.ran (YieldsList-from_range 0 c.args.i c.args.i refl (omega arith)) (λ x b q k. search rules) in
    e ∙ any_from_zero p q f _ (λ i h. refl)
