use native.Mathlib.Omega.{arith}
use mathlib.Core.Bool.{Bool}
use Prim.Native.Nat.{ℕ}
use mathlib.Core.Path.{◌≡◌, ap, ◌∙◌}
use lib.ListN.{take}
use lib.Dec.{ltb}
use Rattle.std.proofs.Common.{rules}
use Rattle.std.proofs.lemmas.Iterator.{YieldsList-from_slice}
use Rattle.std.proofs.lemmas.Iterator.Search.{all_from_yields_List}
use Rattle.std.specs.List.{list_all}
use Rattle.base_lists.specs.Tests.{all}
use Rattle.base_lists.proofs.Chains.{all-list}
use Rattle.tree_nodes.proofs.Ranges.{taken}
use Rattle.tree_nodes.proofs.parents.categories_known.Goals as goal

pub returns : goal.returns
returns c = let s = c.args.s.now in
    let p : ℕ → Bool = λ x. ltb x s.counts.categories in
    let e : c.all.result ≡ list_all p (take s.counts.nodes s.category) =
    all_from_yields_List p _ _ _ c.all.ensures.ran (YieldsList-from_slice _ cc) (λ x b q k. search rules) in
    e ∙ all-list p _ ∙ ap (all p) (taken s.category s.counts.nodes (omega arith))
