use native.Mathlib.Omega.{arith}
use mathlib.Core.Path.{◌≡◌, refl, ◌∙◌}
use Rattle.std.proofs.Common.{rules}
use Rattle.std.specs.List.{list_all, range_with_len}
use Rattle.std.proofs.lemmas.Iterator.{YieldsList-from_range}
use Rattle.std.proofs.lemmas.Iterator.Search.{all_from_yields_List}
use Rattle.tree_nodes.specs.Tests.{under_at}
use Rattle.tree_nodes.proofs.Ranges.{all_from_zero}
use Rattle.tree_nodes.proofs.parents.parents_right.Goals as goal

pub returns : goal.returns
returns c = let s = c.args.s.now in
    let p = under_at s.category s.parent in
    let e : c.all.result ≡ list_all p (range_with_len 0 s.counts.nodes) =
    all_from_yields_List p _ _ _ c.all.ensures.ran (YieldsList-from_range 0 s.counts.nodes s.counts.nodes refl (omega arith)) (λ x b q k. search rules) in
    e ∙ all_from_zero p p (λ i. i) _ (λ i h. refl)
