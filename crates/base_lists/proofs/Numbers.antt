-- Laws of numbers: the lesser of two, ranges, rows of one width.
use Prim.Native.Nat.{ℕ, ◌≤◌, min, ◌<◌, ◌+◌, ◌*◌, ◌%◌}
use mathlib.Core.Path.{◌≡◌, sym, ap₂, ◌∙◌}
use mathlib.Core.Bool.{true, and-eq-true_iff, ◌&&◌}
use native.Mathlib.Nat.{suc-mul, mul-le-mul_right}
use native.Mathlib.Numerals.{add-one}
use native.Mathlib.Omega.{arith}
use lib.Dec.{leb, eqb}
use borrow.Author.Tests.{leb-true, le-leb, eq-eqb, ne_eqb, eqb-true, eqb-false}
use Rattle.base_lists.specs.Numbers.{within}
use Rattle.base_lists.proofs.Bools.{by_test}

-- the lesser of two is the first if that is not greater
pub min-le : (n m : ℕ) → n ≤ m → n ≡ min n m
min-le n m h = omega arith

-- the lesser of two is the second if that is less
pub min-gt : (n m : ℕ) → m < n → m ≡ min n m
min-gt n m h = omega arith

-- a number other than 0 is above 0
pub pos-of-ne : {n : ℕ} → (n ≡ 0 → ⊥) → 0 < n
pos-of-ne {n} h = omega arith

-- row i of n rows of w numbers lies within them
pub row_fits : (i n w : ℕ) → i < n → i * w + w ≤ n * w
row_fits i n w h = rw (← suc-mul i w) (mul-le-mul_right w h)

-- where row i ends the next begins
pub next_row : (i w : ℕ) → i * w + w ≡ (i + 1) * w
next_row i w = rw add-one (sym (suc-mul i w))

-- a number in a range lies between its ends
pub within-is : (lo hi x : ℕ) → within lo hi x ≡ true → (lo ≤ x) × (x ≤ hi)
within-is lo hi x e = let b = (and-eq-true_iff (leb lo x) (leb x hi)).0 e in (leb-true lo x b.0, leb-true x hi b.1)

-- a number between the ends of a range is in it
pub in-range : (lo hi x : ℕ) → lo ≤ x → x ≤ hi → within lo hi x ≡ true
in-range lo hi x a b = ap₂ ◌&&◌ (le-leb lo x a) (le-leb x hi b)

-- equality of numbers is tested either way round
pub eqb-sym : (m n : ℕ) → eqb m n ≡ eqb n m
eqb-sym m n = by_test (eqb m n) (λ e. e ∙ sym (eq-eqb n m (sym (eqb-true m n e)))) (λ e. e ∙ sym (ne_eqb n m (λ q. eqb-false m n e (sym q))))

-- a number below 256 is its last byte
pub one_byte : {x r : ℕ} → r ≡ x % 256 → x < 256 → r ≡ x
one_byte e h = omega (arith, e)

-- a number below 65536 is its last two bytes
pub two_bytes : {x r : ℕ} → r ≡ x % 65536 → x < 65536 → r ≡ x
two_bytes e h = omega (arith, e)
