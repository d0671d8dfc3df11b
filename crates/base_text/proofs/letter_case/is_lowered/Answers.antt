use Rattle.std.proofs.Common.{◌≡◌, ap, ◌∙◌, not, rules}
use borrow.Author.Tests.{tests}
use Rattle.std.specs.List.{list_any}
use Rattle.std.specs.Char.{is_ascii_uppercase}
use Rattle.std.proofs.lemmas.Iterator.{YieldsList-from_slice}
use Rattle.std.proofs.lemmas.Iterator.Search.{any_from_yields_List}
use Rattle.base_text.proofs.Cases.{none-capital}
use Rattle.base_text.proofs.letter_case.is_lowered.Goals as goal

pub returns : goal.returns
returns c =
    let s = c.args.s.now in
    let e : c.any.result ≡ list_any is_ascii_uppercase s =
    any_from_yields_List is_ascii_uppercase _ _ _ c.any.ensures.ran (YieldsList-from_slice s cc) (λ x b q k. search (rules, tests)) in
    ap not e ∙ none-capital s
