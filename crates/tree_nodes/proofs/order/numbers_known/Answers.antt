use native.Mathlib.Omega.{arith}
use mathlib.Core.Path.{◌≡◌, ap, ◌∙◌}
use lib.ListN.{take}
use borrow.Author.Tests.{tests}
use Rattle.std.proofs.Common.{rules}
use Rattle.std.proofs.lemmas.Iterator.{YieldsList-from_slice}
use Rattle.std.proofs.lemmas.Iterator.Search.{all_from_yields_List}
use Rattle.std.specs.List.{list_all}
use Rattle.base_lists.specs.Numbers.{within}
use Rattle.base_lists.specs.Tests.{all}
use Rattle.base_lists.proofs.Chains.{all-list}
use Rattle.tree_nodes.proofs.Ranges.{taken}
use Rattle.tree_nodes.proofs.order.numbers_known.Goals as goal

pub returns : goal.returns
returns c = let s = c.args.s.now in
    let p = within 1 s.counts.nodes in
    let e : c.all.result ≡ list_all p (take s.counts.numbers s.number) =
    all_from_yields_List {all = take s.counts.numbers s.number} p _ _ _ c.all.ensures.ran (YieldsList-from_slice _ cc) (λ x b q k. search (rules, tests)) in
    e ∙ all-list p _ ∙ ap (all p) (taken s.number s.counts.numbers (omega arith))
