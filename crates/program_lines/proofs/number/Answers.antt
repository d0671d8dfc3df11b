use Rattle.std.proofs.Common.{◌≡◌, ◌∙◌, rules}
use Rattle.std.specs.List.{fold}
use Rattle.program_lines.specs.Numbers.{more_digits}
use Rattle.program_lines.proofs.NumberLaws.{number-fold}
use Rattle.program_lines.proofs.number.Goals as goal

pub returns : goal.returns
returns c =
    let e : c.fold.result ≡ fold (λ n b. more_digits n b) 0 c.args.s.now = search rules in
    e ∙ number-fold 0 c.args.s.now
