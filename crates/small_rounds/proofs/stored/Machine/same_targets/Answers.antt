use Rattle.std.proofs.Common.{rules, ◌≡◌, ◌∙◌, refl, arith}
use Rattle.std.specs.List.{list_all, range_with_len}
use Rattle.std.proofs.lemmas.Iterator.{YieldsList-from_range}
use Rattle.std.proofs.lemmas.Iterator.Search.{all_from_yields_List}
use Rattle.theory_minimal.specs.Refine.{same_target}
use Rattle.small_rounds.specs.Rows.{machine_in}
use Rattle.small_rounds.proofs.Ranges.{all-range}
use Rattle.small_rounds.proofs.stored.Machine.same_targets.Goals as goal

pub returns : goal.returns
returns c = let p = same_target (machine_in c.args.self.rows) c.args.p.now c.args.i c.args.j in
    let n = c.args.self.rows.symbols in
    let e : c.all.result ≡ list_all p (range_with_len 0 n) =
    all_from_yields_List p _ _ _ c.all.ensures.ran (YieldsList-from_range 0 n n refl (omega arith)) (λ x b q k. search rules) in
    e ∙ all-range p n
