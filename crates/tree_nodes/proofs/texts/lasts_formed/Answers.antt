use Prim.Native.Nat.{ℕ}
use native.Mathlib.Omega.{arith}
use mathlib.Core.Bool.{Bool}
use mathlib.Core.Path.{◌≡◌, refl, ap, ◌∙◌}
use Rattle.std.proofs.Common.{rules}
use Rattle.std.proofs.lemmas.Iterator.{YieldsList-from_range}
use Rattle.std.proofs.lemmas.Iterator.Search.{all_from_yields_List}
use Rattle.std.specs.List.{list_all, range_with_len}
use Rattle.base_numbers.specs.Numbers.{most_nodes}
use Rattle.base_lists.specs.Cuts.{stretch}
use Rattle.node_search.specs.Arrays.{text_in}
use Rattle.node_search.proofs.TextLaws.{text_in_lem}
use Rattle.urn_names.specs.Urn.{stored_name}
use Rattle.tree_nodes.proofs.ByArrays.{lasts-over, lasts-within}
use Rattle.tree_nodes.proofs.Ranges.{all_from_zero}
use Rattle.tree_nodes.proofs.texts.lasts_formed.Goals as goal

pub returns-then-s-le-MOST_NODES : goal.returns-then-s-le-MOST_NODES
returns-then-s-le-MOST_NODES c = let s = c.args.s.now in
    let t = c.args.t.now in
    let p : ℕ → Bool = λ i. stored_name (text_in most_nodes t s.at s.len i) in
    let e : c.all.result ≡ list_all p (range_with_len 0 s.counts.nodes) =
    all_from_yields_List p _ _ _ c.all.ensures.ran (YieldsList-from_range 0 s.counts.nodes s.counts.nodes refl (omega arith)) (λ x b q k. search rules) in
    lasts-within _ _ _ _ c.if-s-le-MOST_NODES.true
    (e ∙ all_from_zero p stored_name (stretch t s.at s.len) _ (λ i h. ap stored_name (text_in_lem _ _ _ _ _ refl (omega arith))))

pub returns-else-s-le-MOST_NODES : goal.returns-else-s-le-MOST_NODES
returns-else-s-le-MOST_NODES c = lasts-over _ _ _ _ c.if-s-le-MOST_NODES.false
