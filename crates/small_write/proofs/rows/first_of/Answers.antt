use Rattle.std.proofs.Common.{rules, refl, length, arith}
use Rattle.std.proofs.lemmas.Iterator.{YieldsList-from_range}
use Rattle.std.proofs.lemmas.Iterator.Search.{find_from_yields_List}
use Rattle.theory_minimal.specs.Proposal.{has_class}
use Rattle.small_rounds.proofs.Ranges.{found-range}
use Rattle.small_write.proofs.rows.first_of.Goals as goal

pub returns : goal.returns
returns c = let p = has_class c.args.p.now c.args.c in
    let n = length c.args.p.now in
    rw c.unwrap_or.ensures
    (found-range p n c.find.result (find_from_yields_List p _ _ _ c.find.ensures.ran (YieldsList-from_range 0 n n refl (omega arith)) (λ x b q k. search rules))).0
