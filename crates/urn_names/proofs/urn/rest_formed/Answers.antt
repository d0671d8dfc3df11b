use mathlib.Core.Path.{◌≡◌, subst, ◌∙◌}
use mathlib.Core.Bool.{false}
use Prim.Native.Nat.{ℕ}
use lib.Dec.{leb}
use Rattle.std.proofs.Common.{Option, rules}
use Rattle.std.specs.Option.{MatchOption}
use Rattle.urn_names.proofs.Capitals.{count-any}
use Rattle.urn_names.proofs.Turns.{rest-count}
use Rattle.urn_names.proofs.urn.rest_formed.Goals as goal

pub returns : goal.returns
returns c =
    let b = c.is_some_and.result in
    let m : MatchOption c.names.result (b ≡ false) (λ n. b ≡ leb 2 n) = search rules in
    rest-count c.args.s.now (subst (λ (o : Option ℕ). MatchOption o (b ≡ false) (λ n. b ≡ leb 2 n)) (c.names.ensures ∙ count-any c.args.s.now) m)
