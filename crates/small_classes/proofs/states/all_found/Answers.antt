use Rattle.std.proofs.Common.{rules, ◌≡◌, ◌+◌, ◌∙◌, refl, ap, arith}
use Rattle.std.specs.List.{list_all, range_with_len}
use Rattle.std.proofs.lemmas.Iterator.{YieldsList-from_range}
use Rattle.std.proofs.lemmas.Iterator.Search.{all_from_yields_List}
use Rattle.base_lists.specs.Lists.{all_below}
use Rattle.theory_minimal.specs.Proposal.{class_count}
use Rattle.theory_minimal.specs.Test.{class_found}
use Rattle.small_rounds.proofs.Ranges.{all-range}
use Rattle.small_classes.proofs.states.all_found.Goals as goal

pub returns : goal.returns
returns c = let p = class_found c.args.p.now c.args.list.now in
    let n = c.highest_class.result + 1 in
    let d : n ≡ class_count c.args.p.now = omega (arith, c.highest_class.ensures.0) in
    let e : c.all.result ≡ list_all p (range_with_len 0 n) =
    all_from_yields_List p _ _ _ c.all.ensures.ran (YieldsList-from_range 0 n n refl (omega arith)) (λ x b q k. search rules) in
    e ∙ all-range p n ∙ ap (λ k. all_below k p) d
