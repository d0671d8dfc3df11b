-- Numbers in decimal and bytes in hex.
-- Assumes nothing.
use Rattle.std.specs.Prelude.{ℕ, ◌+◌, ◌-◌, ◌*◌, cond, List, [], ◌∷◌, leb, ltb, get_or}

-- 0 to 9 (bytes 48 to 57); any other byte counts as 0
unfoldable pub digit_of : ℕ → ℕ
digit_of b = cond (ltb b 48) 0 (cond (ltb 57 b) 0 (b - 48))

-- one more digit, unless there are nine
abbrev pub more_digits : ℕ → ℕ → ℕ
more_digits n b = cond (ltb n 100000000) (n * 10 + digit_of b) n

-- the number that digits say after the number n
unfoldable pub number_of : ℕ → List ℕ → ℕ
number_of n [] = n
number_of n (b ∷ l) = number_of (more_digits n b) l

-- 0 to 9, a to f (97 to 102); any other byte counts as 0
unfoldable pub hex_digit : ℕ → ℕ
hex_digit b = cond (ltb b 48) 0 (cond (leb b 57) (b - 48) (cond (ltb b 97) 0 (cond (ltb 102 b) 0 (b - 97 + 10))))

-- byte k of a text in hex
abbrev pub hex_pair : List ℕ → ℕ → ℕ
hex_pair s k = hex_digit (get_or s (2 * k) 0) * 16 + hex_digit (get_or s (2 * k + 1) 0)
