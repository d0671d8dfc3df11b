-- What the resolvers by an image answer. The image's states have a byte for each of n categories: the table's in an image, none in
-- a small one.
use Rattle.std.specs.Prelude.{ℕ, cond, List}
use Rattle.base_numbers.specs.Numbers.{image_bad_form}
use Rattle.value_reader.specs.Value.{uris_of}
use Rattle.table_decode.specs.Tables.{table_of}
use Rattle.machine_image.specs.Refusals.{form_over}
use Rattle.machine_image.specs.Walk.{signal_over}
use Rattle.resolve_run.specs.Answers.{taken_as, refused, answered, unless_refused}
use Rattle.resolve_run.specs.declared.Resolution.{Resolution}

-- the signal of the walk over a list of URIs
abbrev pub walked_over : ℕ → List ℕ → List ℕ → List (List ℕ) → ℕ
walked_over n t im uris = signal_over n (table_of t) im (taken_as t uris)

-- the image as it is stored, followed over the value's list; 15 if it is of wrong form
unfoldable pub resolved_over : ℕ → List ℕ → List ℕ → List ℕ → Resolution
resolved_over n t im v =
    unless_refused t v (cond (form_over n (table_of t) im) (answered t (uris_of v) (walked_over n t im (uris_of v))) (refused image_bad_form))

-- the same of a small image
abbrev pub walked_small : List ℕ → List ℕ → List (List ℕ) → ℕ
walked_small t small uris = walked_over 0 t small uris

abbrev pub resolved_small : List ℕ → List ℕ → List ℕ → Resolution
resolved_small t small v = resolved_over 0 t small v
