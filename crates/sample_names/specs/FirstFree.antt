-- The names z0, z1, z2 and so on, and the first of them that is free.
use Rattle.std.specs.Prelude.{ℕ, zero, suc, Bool, cond, List, [], ◌∷◌, ◌++◌, reverse, length, eqb}
use Rattle.base_lists.specs.Lists.{member_by}
use Rattle.theory_resolution.specs.Names.{Name, same_name}
use Rattle.theory_resolution.specs.Table.{Urn}
use Rattle.theory_resolution.specs.Nodes.{is_node}

-- one more, in decimal digits with the last one first: 48 to 57 are the digits
unfoldable pub one_more : List ℕ → List ℕ
one_more [] = 49 ∷ []
one_more (d ∷ ds) = cond (eqb d 57) (48 ∷ one_more ds) (suc d ∷ ds)

-- a number's decimal digits, the last one first
unfoldable pub digits_of : ℕ → List ℕ
digits_of zero = 48 ∷ []
digits_of (suc n) = one_more (digits_of n)

-- z (122) and a number in decimal
unfoldable pub z_name : ℕ → Name
z_name n = 122 ∷ reverse (digits_of n)

-- the first of the n numbers from i on that is not taken; the one after them where all are
unfoldable pub first_free : (ℕ → Bool) → ℕ → ℕ → ℕ
first_free taken zero i = i
first_free taken (suc n) i = cond (taken i) (first_free taken n (suc i)) i

-- the k-th of the names is a category
unfoldable pub name_taken : List Name → ℕ → Bool
name_taken names k = member_by same_name (z_name k) names

-- the k-th of the names makes a node under u
unfoldable pub part_taken : List Urn → Urn → ℕ → Bool
part_taken ns u k = is_node ns u.cat (u.path ++ z_name k ∷ [])

-- the first that is no category: among one more names than there are categories, one is free
unfoldable pub foreign : List Name → Name
foreign names = z_name (first_free (name_taken names) (length names) 0)

-- the first that makes no node under u: among one more names than there are nodes, one is free
unfoldable pub strange : List Urn → Urn → Name
strange ns u = z_name (first_free (part_taken ns u) (length ns) 0)
