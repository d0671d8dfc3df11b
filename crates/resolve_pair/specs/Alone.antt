-- What the code goes by: the categories' names in arrays, and the answer as a result.
use Rattle.std.specs.Prelude.{ℕ, min, Bool, not, List, Result, Ok, Err}
use Rattle.base_numbers.specs.Numbers.{most_categories}
use Rattle.base_lists.specs.Cuts.{stretch}
use Rattle.base_lists.specs.Lists.{all_below}
use Rattle.base_numbers.specs.declared.refusal.Refusal.{Refusal}
use Rattle.base_numbers.specs.Refusals.{refusal_number}
use Rattle.theory_resolution.specs.Names.{Name, same_name}
use Rattle.resolve_pair.specs.declared.Pair.{Pair}
use Rattle.resolve_pair.specs.Pair.{refused}

-- the name x is not that of category j
unfoldable pub other_at : Name → List ℕ → List ℕ → List ℕ → ℕ → Bool
other_at x t at len j = not (same_name x (stretch t at len j))

-- the name of category i of the one table is that of none of the n categories of the other
unfoldable pub none_at : List ℕ → List ℕ → List ℕ → List ℕ → List ℕ → List ℕ → ℕ → ℕ → Bool
none_at ring rat rlen lamp lat llen n i = all_below n (other_at (stretch ring rat rlen i) lamp lat llen)

-- no category of the one table is one of the other's, of at most 8 each
unfoldable pub apart_by : List ℕ → List ℕ → List ℕ → ℕ → List ℕ → List ℕ → List ℕ → ℕ → Bool
apart_by ring rat rlen m lamp lat llen n = all_below (min m most_categories) (none_at ring rat rlen lamp lat llen (min n most_categories))

-- two signals, or refused
abbrev pub paired : Result (ℕ × ℕ) Refusal → Pair
paired (Ok x) = record { refusal = 0; ring = x.0; lamp = x.1 }
paired (Err k) = refused (refusal_number k)
