use mathlib.Core.Path.{◌≡◌, refl, ◌∙◌}
use Prim.Native.Nat.{ℕ, ◌+◌, ◌-◌}
use mathlib.Core.Bool.{Bool}
use lib.ListN.{get_or}
use lib.Dec.{eqb}
use Rattle.std.proofs.Common.{rules}
use Rattle.std.proofs.lemmas.Iterator.{YieldsList-from_range}
use Rattle.std.proofs.lemmas.Iterator.Search.{all_from_yields_List}
use Rattle.std.specs.List.{list_all, range_with_len}
use Rattle.tree_nodes.proofs.Tests.{linked-range}
use Rattle.tree_nodes.proofs.order.linked.Goals as goal

pub returns : goal.returns
returns c = let m = c.args.m in
    let k = c.args.k in
    let p : ℕ → Bool = λ i. eqb (get_or c.args.parent.now i 0) i in
    let e : c.all.result ≡ list_all p (range_with_len (m + 1) (k - (m + 1))) =
    all_from_yields_List p _ _ _ c.all.ensures.ran (YieldsList-from_range (m + 1) k _ refl refl) (λ x b q k. search rules) in
    e ∙ linked-range _ m k _ refl
