use Rattle.std.proofs.Common.{◌≡◌, ◌&&◌, ltb, arith, rules, tests, refl, min, take, ◌++◌, ◌∷◌}
use Rattle.std.specs.List.{list_any, range_with_len}
use Rattle.std.proofs.lemmas.Iterator.{YieldsList-from_range}
use Rattle.std.proofs.lemmas.Iterator.Search.{any_from_yields_List}
use Rattle.theory_resolution.specs.Table.{urn}
use Rattle.theory_resolution.specs.Nodes.{same_urn}
use Rattle.base_text.specs.Text.{fields}
use Rattle.sample_names.specs.Held.{held_urn}
use Rattle.sample_names.proofs.SearchLaws.{part-member}
use Rattle.sample_names.proofs.search.part_taken.Goals as goal

pub returns : goal.returns
returns c = λ few.
    let z = take c.new-z.result.len c.new-z.result.bytes in
    let d = c.args.d.now in
    let e : c.any.result
    ≡ list_any (λ j. ltb j 64 && same_urn (urn c.args.c (fields 58 (c.args.p.now ++ 58 ∷ z))) (held_urn c.args.t.now d.category d.at d.len j))
    (range_with_len 0 (min d.nodes 64)) =
    any_from_yields_List _ _ _ _ c.any.ensures.ran (YieldsList-from_range 0 c.min.result (min d.nodes 64) refl (omega (arith, c.min.ensures)))
    (λ x b q k. search (rules, tests)) in
    part-member c.args.t.now d.category d.at d.len d.nodes c.args.c c.args.k c.args.p.now few (c.new-z.ensures few) e
