use Rattle.std.proofs.Common.{rules, ◌≡◌, ◌∙◌, refl, arith}
use Rattle.std.specs.List.{list_all, range_with_len}
use Rattle.std.proofs.lemmas.Iterator.{YieldsList-from_range}
use Rattle.std.proofs.lemmas.Iterator.Search.{all_from_yields_List}
use Rattle.small_rounds.specs.Stored.{row_leads}
use Rattle.small_rounds.specs.Rows.{machine_in}
use Rattle.small_rounds.proofs.Ranges.{all-range}
use Rattle.small_rounds.proofs.stored.Rows.all_lead.Goals as goal

pub returns : goal.returns
returns c = let p = row_leads (machine_in c.args.self) in
    let n = c.args.self.states in
    let e : c.all.result ≡ list_all p (range_with_len 0 n) =
    all_from_yields_List p _ _ _ c.all.ensures.ran (YieldsList-from_range 0 n n refl (omega arith)) (λ x b q k. search rules) in
    e ∙ all-range p n
