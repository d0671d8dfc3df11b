-- The byte rules once more, each as all its bytes written out, and the claim that test and list say the same.
-- The proof is in proofs/Characters.antt. Assumes nothing.
use Rattle.std.specs.Prelude.{◌≡◌, ◌↔◌, true, ℕ, zero, suc}
use mathlib.Core.List.{List, [], ◌∷◌, ◌++◌, Memᴰ}
use Rattle.base_ascii.specs.Ascii.{bytes}
use Rattle.value_cursor.specs.Bytes.{in_class}

-- n bytes, from b on
abbrev pub count_from : ℕ → ℕ → List ℕ
count_from b zero = []
count_from b (suc n) = b ∷ count_from (suc b) n

-- the bytes of each class, numbered as in `in_class`: blanks; in a URI; in a token; in a quoted string as themselves, the last
-- 128 to 255; in a quoted string after \, 0 to 9, 11, 12 and 14 to 127
abbrev pub characters : ℕ → List ℕ
characters zero = bytes " \t"
characters (suc zero) = bytes "!#$%&'()*+,-./0123456789:;=?@ABCDEFGHIJKLMNOPQRSTUVWXYZ[\\]^_`abcdefghijklmnopqrstuvwxyz{|}~"
characters (suc (suc zero)) = bytes "ABCDEFGHIJKLMNOPQRSTUVWXYZabcdefghijklmnopqrstuvwxyz0123456789-.!%*_+`'~"
characters (suc (suc (suc zero))) =
    bytes "\t !#$%&'()*+,-./0123456789:;<=>?@ABCDEFGHIJKLMNOPQRSTUVWXYZ[]^_`abcdefghijklmnopqrstuvwxyz{|}~"
    ++ count_from 128 128
characters (suc (suc (suc (suc k)))) = count_from 0 10 ++ (11 ∷ 12 ∷ count_from 14 114)

-- a number passes a byte rule exactly if it is one of the bytes written out
abbrev pub AsWritten : Type 0
AsWritten = (k b : ℕ) → (in_class k b ≡ true) ↔ Memᴰ b (characters k)
