use Prim.Native.Nat.{ℕ}
use native.Mathlib.Omega.{arith}
use mathlib.Core.Bool.{Bool, not}
use mathlib.Core.Path.{◌≡◌, refl, ◌∙◌}
use Rattle.std.proofs.Common.{rules}
use Rattle.std.proofs.lemmas.Iterator.{YieldsList-from_range}
use Rattle.std.proofs.lemmas.Iterator.Search.{all_from_yields_List}
use Rattle.std.specs.List.{list_all, range_with_len}
use Rattle.base_lists.specs.Lists.{tabulate}
use Rattle.base_lists.specs.Tests.{any}
use Rattle.tree_sections.specs.Held.{node_from}
use Rattle.tree_nodes.specs.Scan.{same_node}
use Rattle.tree_nodes.proofs.Ranges.{two_from_zero}
use Rattle.tree_nodes.proofs.repeats.nodes_distinct.Goals as goal

pub returns : goal.returns
returns c = let s = c.args.s.now in
    let f = node_from c.args.t.now s.category s.parent s.at s.len in
    let p : ℕ → Bool = λ i. not (any (λ y. same_node y (f i)) (tabulate f i)) in
    let e : c.all.result ≡ list_all p (range_with_len 0 s.counts.nodes) =
    all_from_yields_List p _ _ _ c.all.ensures.ran (YieldsList-from_range 0 s.counts.nodes s.counts.nodes refl (omega arith)) (λ x b q k. search rules) in
    e ∙ two_from_zero same_node f _
