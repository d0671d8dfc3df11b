use Rattle.std.proofs.Common.{rules, ◌≡◌, ◌∙◌}
use Rattle.std.specs.List.{list_any}
use Rattle.std.proofs.lemmas.Iterator.{YieldsList-from_slice}
use Rattle.std.proofs.lemmas.Iterator.Search.{any_from_yields_List}
use lib.Dec.{eqb}
use Rattle.table_kept.specs.Held.{signals_in}
use Rattle.table_kept.proofs.SearchLaws.{list-member}
use Rattle.table_kept.proofs.found.Found.holds.Goals as goal

pub returns : goal.returns
returns c = let s = c.args.s in
    let l = signals_in c.args.self in
    let e : c.any.result ≡ list_any (eqb s) l =
    any_from_yields_List (eqb s) _ _ _ c.any.ensures.ran (YieldsList-from_slice l (search rules)) (λ x b q k. search rules) in
    e ∙ list-member s l
