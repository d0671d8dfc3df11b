-- The examples, computed from the definitions.
use mathlib.Core.Path.{◌≡◌, refl}
use mathlib.Core.Option.{some, none}
use mathlib.Core.List.{[], ◌∷◌, map}
use Rattle.base_lists.specs.Search.{seek, highest, count}
use Rattle.base_lists.specs.Lists.{tabulate, all_below}
use Rattle.theory_resolution.specs.Discovery.{expand, discover}
use Rattle.theory_minimal.specs.Machine.{signal_after}
use Rattle.theory_minimal.specs.Proposal.{small}
use Rattle.theory_minimal.specs.Refine.{refined}
use Rattle.theory_minimal.specs.Test.{fits, proposed}
use Rattle.theory_minimal.specs.Examples.{M1, M2, M3, M4, Case, cases}

pub examples : map (λ (x : Case). fits M1 x.proposal) cases ≡ map (λ (x : Case). x.accepted) cases
unfolding tabulate all_below expand discover seek highest refined
examples = refl

pub example-proposed : proposed M1 ≡ some (0 ∷ 1 ∷ 1 ∷ 2 ∷ [])
unfolding tabulate all_below expand discover seek highest refined count
example-proposed = refl

pub example-unreachable : proposed M2 ≡ none
unfolding tabulate all_below expand discover seek highest refined count
example-unreachable = refl

pub example-alike : proposed M3 ≡ some (0 ∷ 1 ∷ 1 ∷ [])
unfolding tabulate all_below expand discover seek highest refined count
example-alike = refl

pub example-two-symbols : proposed M4 ≡ some (0 ∷ 1 ∷ 2 ∷ 3 ∷ [])
unfolding tabulate all_below expand discover seek highest refined count
example-two-symbols = refl

pub example-small : signal_after (small M1 (0 ∷ 2 ∷ 2 ∷ 1 ∷ [])) 0 (1 ∷ 0 ∷ 0 ∷ []) ≡ 1
unfolding seek
example-small = refl
