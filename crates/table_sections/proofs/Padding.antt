-- Laws of arrays that are 0 from some place on.
use Prim.Native.Nat.{ℕ, suc, zero, ◌+◌, ◌-◌, ◌≤◌}
use mathlib.Core.Path.{◌≡◌, refl, ap, ap₂, sym, ◌∙◌}
use mathlib.Core.List.{List, [], ◌∷◌, ◌++◌}
use native.Mathlib.Omega.{arith}
use lib.ListN.{length, get_or, set, take, replicate, length-set, length-replicate}
use lib.Seq.{get_or-set_other}
use Rattle.base_lists.proofs.Lists.{get_d-all}
use Rattle.table_sections.specs.Held.{Padded}

pub clear : (n : ℕ) → Padded n 0 (replicate n 0)
clear n = (length-replicate n 0, λ k h. get_d-all n k 0)

pub pad-set : (size n : ℕ) (a : List ℕ) (x : ℕ) → Padded size n a → Padded size (n + 1) (set a n x)
pad-set size n a x p = (length-set a n x ∙ p.0, λ k h. get_or-set_other a n k x 0 (λ e. omega arith) ∙ p.1 k (omega arith))

-- such an array is its first n numbers, and zeros after them
after-zeros : (a : List ℕ) (n : ℕ) → ((k : ℕ) → n ≤ k → get_or a k 0 ≡ 0) → a ≡ take n a ++ replicate (length a - n) 0
after-zeros [] zero h = refl
after-zeros [] (suc n) h = let e : 0 - suc n ≡ 0 = omega arith in sym (ap (λ m. replicate m 0) e)
after-zeros (x ∷ a) zero h =
    let e : suc (length a) - 0 ≡ suc (length a - 0) = omega arith in
    ap₂ ◌∷◌ (h 0 (omega arith)) (after-zeros a zero (λ k l. h (suc k) (omega arith))) ∙ sym (ap (λ m. replicate m 0) e)
after-zeros (x ∷ a) (suc n) h =
    let e : suc (length a) - suc n ≡ length a - n = omega arith in
    ap (λ z. x ∷ z) (after-zeros a n (λ k l. h (suc k) (omega arith)) ∙ ap (λ m. take n a ++ replicate m 0) (sym e))

pub padded-is : (size n : ℕ) (a : List ℕ) → Padded size n a → a ≡ take n a ++ replicate (size - n) 0
padded-is size n a p = after-zeros a n p.1 ∙ ap (λ m. take n a ++ replicate (m - n) 0) p.0
