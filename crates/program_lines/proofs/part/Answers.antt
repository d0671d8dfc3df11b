use Rattle.std.proofs.Common.{◌≡◌, rules, tests, eqb, refl}
use Rattle.std.specs.List.{slice_split, slice_get}
use Rattle.std.specs.Option.{option_map}
use Rattle.std.proofs.lemmas.Iterator.Consumers.{nth_from_yields_List}
use Rattle.std.proofs.lemmas.Iterator.Splits.{YieldsList-from_slice_split}
use Rattle.program_lines.proofs.LineLaws.{part-found}
use Rattle.program_lines.proofs.part.Goals as goal

pub returns : goal.returns
returns c =
    let e : option_map (λ x. x.now) c.nth.result ≡ slice_get (slice_split (λ b. eqb b c.args.mark) c.args.s.now) c.args.k =
    nth_from_yields_List _ _ _ c.nth.ensures.ran
    (YieldsList-from_slice_split _ _ _ c.split.ensures.rest c.split.ensures.done c.split.ensures.closure (λ x b q k. search (rules, tests))) in
    rw c.unwrap_or.ensures (part-found c.args.mark c.args.k c.args.s.now c.nth.result _ refl e)
