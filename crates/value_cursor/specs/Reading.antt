-- The reading of a value, from entry to entry: where its entries' URIs lie, or that it does not fit.
-- Assumes nothing.
use Rattle.std.specs.Prelude.{ℕ, List, [], ◌∷◌, Option, Some, None}
use Rattle.value_cursor.specs.Walk.{Move, halt, move, walk_at}
use Rattle.value_cursor.specs.Parts.{entry_at}
use Rattle.value_cursor.specs.declared.alert_param.Span.{Span}
use Rattle.value_cursor.specs.declared.alert_param.Found.{Found}
use Rattle.value_cursor.specs.declared.alert_param.Found.TheVariants.{Last, More}

-- the parts of the value that are its entries' URIs, in order; or: the value does not fit the grammar
pub data Reading : Type 0 where
  unfit : Reading
  spans : List Span → Reading

abbrev pub add : Span → Reading → Reading
add p unfit = unfit
add p (spans ps) = spans (p ∷ ps)

abbrev pub entry_move : Option Found → Move Reading
entry_move (Some (Last p)) = halt (spans (p ∷ []))
entry_move (Some (More p c)) = move (add p) c.at
entry_move None = halt unfit

unfoldable pub value_step : List ℕ → ℕ → Move Reading
value_step s at = entry_move (entry_at s at)

-- the reading from a position on, from entry to entry
unfoldable pub reading_from : List ℕ → ℕ → Reading
reading_from s at = walk_at (value_step s) unfit s at

unfoldable pub reading_of : List ℕ → Reading
reading_of s = reading_from s 0
