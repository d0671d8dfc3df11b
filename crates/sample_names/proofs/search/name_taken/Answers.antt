use Rattle.std.proofs.Common.{◌≡◌, arith, rules, tests, refl, min, take}
use Rattle.std.specs.List.{list_any, range_with_len}
use Rattle.std.proofs.lemmas.Iterator.{YieldsList-from_range}
use Rattle.std.proofs.lemmas.Iterator.Search.{any_from_yields_List}
use Rattle.theory_resolution.specs.Names.{same_name}
use Rattle.node_search.specs.Arrays.{text_in}
use Rattle.sample_names.proofs.SearchLaws.{name-member}
use Rattle.sample_names.proofs.search.name_taken.Goals as goal

pub returns : goal.returns
returns c = λ few.
    let z = take c.new-z.result.len c.new-z.result.bytes in
    let d = c.args.d.now in
    let e : c.any.result ≡ list_any (λ i. same_name z (text_in 8 c.args.t.now d.name_at d.name_len i)) (range_with_len 0 (min d.categories 8)) =
    any_from_yields_List _ _ _ _ c.any.ensures.ran (YieldsList-from_range 0 c.min.result (min d.categories 8) refl (omega (arith, c.min.ensures))) (λ x b q k. search (rules, tests)) in
    name-member c.args.t.now d.name_at d.name_len d.categories c.args.k (c.new-z.ensures few) e
