use Rattle.std.proofs.Common.{rules, ◌≡◌, ℕ, Bool, ◌∙◌}
use Rattle.std.specs.List.{list_any}
use Rattle.std.proofs.lemmas.Iterator.{YieldsList-from_slice}
use Rattle.std.proofs.lemmas.Iterator.Search.{any_from_yields_List}
use lib.Dec.{eqb}
use Rattle.theory_minimal.specs.Proposal.{class_of}
use Rattle.small_classes.proofs.FoundLaws.{found-any}
use Rattle.small_classes.proofs.states.class_found.Goals as goal

pub returns : goal.returns
returns c =
    let p : ℕ → Bool = λ s. eqb (class_of c.args.p.now s) c.args.c in
    let e : c.any.result ≡ list_any p c.args.list.now =
    any_from_yields_List p _ _ _ c.any.ensures.ran (YieldsList-from_slice c.args.list.now (search rules)) (λ x b q k. search rules) in
    e ∙ found-any c.args.p.now c.args.list.now c.args.c
