-- Laws of tests: their two values, and, or.
use Prim.Native.Nat.{ℕ}
use mathlib.Core.Path.{◌≡◌, refl, sym, subst}
use mathlib.Core.Logic.{◌≢◌}
use mathlib.Core.Bool.{Bool, true, false, ◌||◌, false≢true, ◌&&◌, cond}
use lib.Dec.{T}

-- by the two values of a test
pub by_test : {P : Type 0} (b : Bool) → (b ≡ true → P) → (b ≡ false → P) → P
by_test true f g = f refl
by_test false f g = g refl

-- two tests with the same yes are one
pub same_test : (a b : Bool) → (a ≡ true → b ≡ true) → (b ≡ true → a ≡ true) → a ≡ b
same_test true b f g = sym (f refl)
same_test false true f g = g refl
same_test false false f g = refl

-- a disjunction holds by its first test
pub or_left : (a b : Bool) → a ≡ true → a || b ≡ true
or_left true b e = refl
or_left false b e = absurd (false≢true e)

-- a disjunction holds by its second test
pub or_right : (a b : Bool) → b ≡ true → a || b ≡ true
or_right true b e = refl
or_right false b e = e

-- by the test that makes a disjunction hold
pub or_cases : {P : Type 0} (a b : Bool) → a || b ≡ true → (a ≡ true → P) → (b ≡ true → P) → P
or_cases true b e f g = f refl
or_cases false b e f g = g e

-- four tests, the middle two exchanged
pub exchange : (a b c d : Bool) → ((a && b) && (c && d)) ≡ ((a && c) && (b && d))
exchange true true c d = refl
exchange true false true d = refl
exchange true false false d = refl
exchange false b c d = refl

-- a choice of two numbers, neither of which is n, is not n
pub unless : (b : Bool) (n x y : ℕ) → x ≢ n → y ≢ n → cond b x y ≢ n
unless true n x y p q = p
unless false n x y p q = q

-- a test that passes, as a type
pub is_true : (b : Bool) → b ≡ true → T b
is_true b e = subst T (sym e) tt
