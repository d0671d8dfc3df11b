use mathlib.Core.Path.{◌≡◌, subst, ◌∙◌}
use mathlib.Core.Bool.{false}
use Prim.Native.Nat.{ℕ}
use Rattle.std.proofs.Common.{Option, rules}
use Rattle.std.specs.Option.{MatchOption}
use Rattle.base_lists.specs.Numbers.{within}
use Rattle.urn_names.proofs.Capitals.{count-small, urn-count}
use Rattle.urn_names.proofs.urn.urn_formed.Goals as goal

pub returns : goal.returns
returns c =
    let b = c.is_some_and.result in
    let m : MatchOption c.names.result (b ≡ false) (λ n. b ≡ within 2 9 n) = search rules in
    urn-count c.args.s.now (subst (λ (o : Option ℕ). MatchOption o (b ≡ false) (λ n. b ≡ within 2 9 n)) (c.names.ensures ∙ count-small c.args.s.now) m)
