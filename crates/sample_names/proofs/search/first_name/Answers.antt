use Rattle.std.proofs.Common.{◌≡◌, ◌≤◌, ◌∙◌, arith, ap, rules, tests, true, false}
use Rattle.std.proofs.lemmas.Iterator.{first_from_Range}
use Rattle.sample_names.specs.FirstFree.{first_free, name_taken}
use Rattle.sample_names.specs.Held.{held_names}
use Rattle.sample_names.proofs.SearchLaws.{first-found}
use Rattle.sample_names.proofs.search.first_name.Goals as goal

pub returns-clause-value : goal.returns-clause-value
returns-clause-value c =
    let d = c.args.d.now in
    let taken = name_taken (held_names c.args.t.now d.name_at d.name_len d.categories) in
    let found = first_from_Range _ _ _ c.find.result (λ k. k ≤ 64 → taken k ≡ false) (λ k. k ≤ 64 → taken k ≡ true) c.find.ensures.ran
    (λ x q k. search (rules, tests)) (λ x q k. search (rules, tests)) in
    let few : c.min-n.result ≤ 64 = omega (arith, c.min-n.ensures) in
    c.unwrap_or.ensures ∙ first-found taken c.min-n.result c.find.result few found ∙ ap (λ n. first_free taken n 0) c.min-n.ensures
