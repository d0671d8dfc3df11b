-- With small letters two texts are equal exactly if they are the same but for letter case.
use Prim.Native.Nat.{ℕ}
use mathlib.Core.Path.{◌≡◌, refl, ap, ap₂, sym, ◌∙◌}
use mathlib.Core.Logic.{inl, inr}
use mathlib.Core.Bool.{◌&&◌, false≢true}
use mathlib.Core.List.{List, [], ◌∷◌}
use native.Mathlib.Omega.{arith}
use borrow.Author.Tests.{le-leb}
use Rattle.base_text.specs.Text.{lower, lowered}
use Rattle.base_text.specs.LetterCase.{Capital, SameLetter, SameButCase, none, more, LoweredExactly}
use Rattle.base_text.proofs.Cases.{lower-cases}

-- a capital letter and its small one
capital-lowered : {x y : ℕ} → Capital x y → lower x ≡ lower y
capital-lowered {x} {y} k =
    lower-cases x
    (λ a b e. e ∙ sym k.small ∙ sym (lower-cases y (λ c d f. absurd (omega (arith, k.small))) (λ c f. f)))
    (λ a e. absurd (false≢true (sym a ∙ ap₂ ◌&&◌ (le-leb 65 x k.from-a) (le-leb x 90 k.to-z))))

letter-lowered : (x y : ℕ) → SameLetter x y → lower x ≡ lower y
letter-lowered x y (inl e) = ap lower e
letter-lowered x y (inr (inl k)) = capital-lowered k
letter-lowered x y (inr (inr k)) = sym (capital-lowered k)

lowered-letter : (x y : ℕ) → lower x ≡ lower y → SameLetter x y
lowered-letter x y e =
    lower-cases x
    (λ a b f. lower-cases y
    (λ c d g. inl (omega (arith, sym f ∙ e ∙ g)))
    (λ c g. inr (inl (record { from-a = a; to-z = b; small = sym g ∙ sym e ∙ f }))))
    (λ a f. lower-cases y
    (λ c d g. inr (inr (record { from-a = c; to-z = d; small = sym f ∙ e ∙ g })))
    (λ c g. inl (sym f ∙ e ∙ g)))

case-lowered : {a b : List ℕ} → SameButCase a b → lowered a ≡ lowered b
unfolding lowered
case-lowered none = refl
case-lowered (more k l) = ap₂ ◌∷◌ (letter-lowered _ _ k) (case-lowered l)

lowered-case : (a b : List ℕ) → lowered a ≡ lowered b → SameButCase a b
unfolding lowered
lowered-case [] [] e = none
lowered-case [] (y ∷ b) e = absurd (let z : ◌≡◌ {A = ℕ} 0 1 = cc in omega arith)
lowered-case (x ∷ a) [] e = absurd (let z : ◌≡◌ {A = ℕ} 0 1 = cc in omega arith)
lowered-case (x ∷ a) (y ∷ b) e =
    let f : lower x ≡ lower y = cc in
    let g : lowered a ≡ lowered b = cc in
    more (lowered-letter x y f) (lowered-case a b g)

pub lowered-exactly : LoweredExactly
lowered-exactly a b = (lowered-case a b, case-lowered)
