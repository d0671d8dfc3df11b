-- Numbers: ranges, and bytes as the digits of one number.
use Rattle.std.specs.Prelude.{ℕ, zero, suc, ◌+◌, ◌*◌, Bool, ◌&&◌, List, get_or, leb}

-- lo ≤ x ≤ hi
abbrev pub within : ℕ → ℕ → ℕ → Bool
within lo hi x = leb lo x && leb x hi

-- n bytes from i on as one number, the first lowest
abbrev pub word_of : List ℕ → ℕ → ℕ → ℕ
word_of s i zero = 0
word_of s i (suc n) = get_or s i 0 + 256 * word_of s (i + 1) n
