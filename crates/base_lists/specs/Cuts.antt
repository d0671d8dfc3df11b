-- Lists cut at the first element of a kind.
use Rattle.std.specs.Prelude.{ℕ, suc, cond, Bool, List, [], ◌∷◌, eqb, get_or, take, drop}

-- the numbers before the first c, or all of them where there is none
unfoldable pub up_to : ℕ → List ℕ → List ℕ
up_to c [] = []
up_to c (x ∷ xs) = cond (eqb x c) [] (x ∷ up_to c xs)

-- the numbers after the first c, or none where there is none
unfoldable pub past : ℕ → List ℕ → List ℕ
past c [] = []
past c (x ∷ xs) = cond (eqb x c) xs (past c xs)

-- how many numbers at the front pass the test
unfoldable pub run : (ℕ → Bool) → List ℕ → ℕ
run p [] = 0
run p (b ∷ l) = cond (p b) (suc (run p l)) 0

-- the part of t that begins at the i-th of the places in `at`, as long as `len` says
abbrev pub stretch : List ℕ → List ℕ → List ℕ → ℕ → List ℕ
stretch t at len i = take (get_or len i 0) (drop (get_or at i 0) t)
