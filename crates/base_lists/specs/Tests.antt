-- Tests over a whole list.
use Rattle.std.specs.Prelude.{Bool, true, ◌&&◌, false, cond, not, List, [], ◌∷◌}

-- every element passes the test
unfoldable pub all : {A : Type 0} → (A → Bool) → List A → Bool
all p [] = true
all p (x ∷ xs) = p x && all p xs

-- some element passes the test
unfoldable pub any : {A : Type 0} → (A → Bool) → List A → Bool
any p [] = false
any p (x ∷ xs) = cond (p x) true (any p xs)

-- no element clashes with a later one
unfoldable pub no_two : {A : Type 0} → (A → A → Bool) → List A → Bool
no_two q [] = true
no_two q (x ∷ xs) = not (any (q x) xs) && no_two q xs
