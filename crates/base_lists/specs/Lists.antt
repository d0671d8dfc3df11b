-- Lists by a test of equality, tables of values, and lists in a row.
use Rattle.std.specs.Prelude.{ℕ, zero, suc, ◌≡◌, Bool, true, false, ◌&&◌, ◌||◌, cond, List, [], ◌∷◌, ◌++◌, length, drop, take}

module _ {A : Type 0} where
  -- two lists are the same, by a test of their elements
  abbrev pub same_list : (A → A → Bool) → List A → List A → Bool
  same_list f [] [] = true
  same_list f [] (y ∷ ys) = false
  same_list f (x ∷ xs) [] = false
  same_list f (x ∷ xs) (y ∷ ys) = f x y && same_list f xs ys

  -- x stands in the list
  abbrev pub member_by : (A → A → Bool) → A → List A → Bool
  member_by f x [] = false
  member_by f x (y ∷ l) = f x y || member_by f x l

  -- the list, with x at its end unless it is there
  abbrev pub add_by : (A → A → Bool) → List A → A → List A
  add_by f l x = cond (member_by f x l) l (l ++ x ∷ [])

  -- the place of x, counted from 0, or the length of a list without it
  abbrev pub index_by : (A → A → Bool) → A → List A → ℕ
  index_by f x [] = zero
  index_by f x (y ∷ l) = cond (f x y) zero (suc (index_by f x l))

  -- no element stands twice
  abbrev pub Distinct : (A → A → Bool) → List A → Type 0
  Distinct f [] = Unit {0}
  Distinct f (x ∷ l) = (member_by f x l ≡ false) × Distinct f l

  -- f 0, f 1, ..., f (n - 1)
  unfoldable pub tabulate : (ℕ → A) → ℕ → List A
  tabulate f zero = []
  tabulate f (suc n) = tabulate f n ++ f n ∷ []

-- the test passes at each number below n
unfoldable pub all_below : ℕ → (ℕ → Bool) → Bool
all_below zero f = true
all_below (suc n) f = all_below n f && f n

-- the elements of some lists, one list after the other
unfoldable pub joined : {A : Type 0} → List (List A) → List A
joined [] = []
joined (l ∷ ls) = l ++ joined ls

-- what f gives for each element, one after the other
unfoldable pub each : {A : Type 0} → (A → List ℕ) → List A → List ℕ
each f [] = []
each f (x ∷ l) = f x ++ each f l

-- p written over the front of b
unfoldable pub over : List ℕ → List ℕ → List ℕ
over p b = p ++ drop (length p) b

-- p over the front of b, as far as b goes
unfoldable pub laid : List ℕ → List ℕ → List ℕ
laid p b = take (length b) p ++ drop (length p) b
