-- Names, paths, and which paths are ancestors of which.
use Rattle.std.specs.Prelude.{ℕ, ◌≡◌, Bool, true, false, cond, List, [], ◌∷◌, ◌++◌, eqb}
use Rattle.std.proofs.Math.Option.{Option, none, some}
use Rattle.base_lists.specs.Lists.{same_list}

-- a category's or a part's name: its bytes in lower case, compared octet for octet
abbrev pub Name : Type 0
Name = List ℕ

-- a path: the parts after the category; [] is the root
abbrev pub Parts : Type 0
Parts = List Name

abbrev pub same_name : Name → Name → Bool
same_name = same_list eqb

abbrev pub same_parts : Parts → Parts → Bool
same_parts = same_list same_name

-- what is left of u after p, if p is u or above it
abbrev pub below : Parts → Parts → Option Parts
below [] u = some u
below (x ∷ p) [] = none
below (x ∷ p) (y ∷ u) = cond (same_name x y) (below p u) none

-- at least one part is left
abbrev pub some_part : Option Parts → Bool
some_part none = false
some_part (some []) = false
some_part (some (x ∷ r)) = true

-- p is a proper ancestor of u: at least one part is left of u after p
abbrev pub proper_ancestor : Parts → Parts → Bool
proper_ancestor p u = some_part (below p u)

-- the same without a test: p is q or an ancestor of q
pub record Above (p q : Parts) : Type 0 where
  pub rest : Parts
  pub joined : p ++ rest ≡ q

-- p ++ r and its ancestors that are longer than p, longest first
abbrev pub longer : Parts → Parts → List Parts
longer p [] = []
longer p (x ∷ r) = longer (p ++ x ∷ []) r ++ (p ++ x ∷ []) ∷ []

-- p ++ r and its ancestors no shorter than p, longest first
abbrev pub candidates : Parts → Parts → List Parts
candidates p r = longer p r ++ p ∷ []

-- something is left of a path below another: the other is the path or an ancestor of it
abbrev pub some_below : Option Parts → Bool
some_below none = false
some_below (some r) = true
