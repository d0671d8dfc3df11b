use Rattle.std.proofs.Common.{◌≡◌, ◌≤◌, ◌∙◌, arith, ap, rules, tests, true, false}
use Rattle.std.proofs.lemmas.Iterator.{first_from_Range}
use Rattle.theory_resolution.specs.Table.{urn}
use Rattle.base_text.specs.Text.{fields}
use Rattle.sample_names.specs.FirstFree.{first_free, part_taken}
use Rattle.sample_names.specs.Held.{held_urns}
use Rattle.sample_names.proofs.SearchLaws.{first-found}
use Rattle.sample_names.proofs.search.first_part.Goals as goal

pub returns-clause-value : goal.returns-clause-value
returns-clause-value c =
    let d = c.args.d.now in
    let taken = part_taken (held_urns c.args.t.now d.category d.at d.len d.nodes) (urn c.args.c (fields 58 c.args.p.now)) in
    let found = first_from_Range _ _ _ c.find.result (λ k. k ≤ 64 → taken k ≡ false) (λ k. k ≤ 64 → taken k ≡ true) c.find.ensures.ran
    (λ x q k. search (rules, tests)) (λ x q k. search (rules, tests)) in
    let few : c.min-n.result ≤ 64 = omega (arith, c.min-n.ensures) in
    c.unwrap_or.ensures ∙ first-found taken c.min-n.result c.find.result few found ∙ ap (λ n. first_free taken n 0) c.min-n.ensures
