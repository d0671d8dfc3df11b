-- How the code compares texts: from a byte on up to which they are known to agree, eight bytes at once, and at their ends first.
use Rattle.std.specs.Prelude.{ℕ, ◌+◌, ◌-◌, min, Bool, true, false, cond, not, ◌&&◌, List, length, get_or, drop, ltb, eqb}
use Rattle.base_lists.specs.Numbers.{word_of}
use Rattle.base_text.specs.Text.{common, lower}
use Rattle.std.proofs.Common.{◌<◌, arith}
use Rattle.std.proofs.lemmas.Bool.Decides.{nat_tests}

-- each byte as it is
abbrev pub as_is : ℕ → ℕ
as_is x = x

-- a small letter is a byte
pub lower_byte : (x : ℕ) → x < 256 → lower x < 256
lower_byte x h = grind (arith, nat_tests)

-- how many bytes p and w have in common, where another text has k in common with w and l with p
unfoldable pub common_next : List ℕ → List ℕ → ℕ → ℕ → ℕ
common_next p w k l = cond (eqb k l) (k + common (drop k p) (drop k w)) (min k l)

-- both texts have a byte at n, and not the same one
unfoldable pub differ_at : List ℕ → List ℕ → ℕ → Bool
differ_at p w n = ltb n (length p) && (ltb n (length w) && not (eqb (get_or p n 0) (get_or w n 0)))

-- a part of the text ends before the byte at n: with the text, or at a colon
unfoldable pub ends_at : List ℕ → ℕ → Bool
ends_at w n = cond (ltb n (length w)) (eqb (get_or w n 0) 58) true

-- the texts differ in n bytes from i on, taken as one number
abbrev pub words_differ : List ℕ → List ℕ → ℕ → ℕ → Bool
words_differ a b i n = not (eqb (word_of a i n) (word_of b i n))

-- the texts differ in their length or at their end: in their last eight bytes, or in the last one where they have fewer
unfoldable pub ends_differ : List ℕ → List ℕ → Bool
ends_differ a b =
    cond (eqb (length a) (length b))
    (cond (eqb (length a) 0) false
    (cond (ltb (length a) 8) (not (eqb (get_or a (length a - 1) 0) (get_or b (length a - 1) 0))) (words_differ a b (length a - 8) 8)))
    true
