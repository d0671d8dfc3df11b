-- Lists of URIs as a stored table takes them.
use mathlib.Core.Path.{◌≡◌}
use Prim.Native.Nat.{ℕ}
use mathlib.Core.List.{List, ◌++◌, map-append}
use Rattle.node_search.specs.Uses.{used_urn}
use Rattle.table_decode.specs.Tables.{category_names}
use Rattle.resolve_library.specs.Resolve.{taken_as}

-- a list of URIs cut in two
pub taken-append : (t : List ℕ) (a b : List (List ℕ)) → taken_as t (a ++ b) ≡ taken_as t a ++ taken_as t b
taken-append t a b = map-append (used_urn (category_names t)) a b
