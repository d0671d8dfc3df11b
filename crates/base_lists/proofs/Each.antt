-- Laws of what a function gives for each element, one after the other.
use Prim.Native.Nat.{ℕ, suc, ◌*◌, ◌<◌, zero, ◌+◌}
use mathlib.Core.Path.{◌≡◌, sym, ap, ◌∙◌, refl}
use mathlib.Core.List.{List, [], ◌∷◌, ◌++◌, append_assoc, append-nil}
use native.Mathlib.Nat.{zero-mul, suc-mul}
use native.Mathlib.Omega.{arith}
use lib.ListN.{length, get_or, length-append, get_or-append}
use lib.Seq.{get_or-append-add}
use Rattle.base_lists.specs.Lists.{each}

module _ {A : Type 0} (f : A → List ℕ) (w : ℕ) (d : A) where
  -- the length, where all have one width
  pub each-length : (l : List A) → ((j : ℕ) → j < length l → length (f (get_or l j d)) ≡ w) → length (each f l) ≡ length l * w
  unfolding each
  each-length [] h = sym (zero-mul w)
  each-length (x ∷ l) h =
      omega (arith, length-append (f x) (each f l), h 0 (omega arith), each-length l (λ j i. h (suc j) (omega arith)), suc-mul (length l) w)

  -- number k of what it gives for element j
  pub each_at : (l : List A) → ((j : ℕ) → j < length l → length (f (get_or l j d)) ≡ w)
      → (j k : ℕ) → j < length l → k < w → get_or (each f l) (j * w + k) 0 ≡ get_or (f (get_or l j d)) k 0
  unfolding each
  each_at [] h j k i n = absurd (omega arith)
  each_at (x ∷ l) h zero k i n =
      ap (λ a. get_or (f x ++ each f l) a 0) (place (zero-mul w)) ∙ get_or-append (f x) (each f l) 0 k (omega (arith, h 0 (omega arith)))
    where
      place : zero * w ≡ 0 → zero * w + k ≡ k
      place e = omega arith
  each_at (x ∷ l) h (suc j) k i n =
      ap (λ a. get_or (f x ++ each f l) a 0) place
      ∙ get_or-append-add (f x) (each f l) (j * w + k) 0
      ∙ each_at l (λ a b. h (suc a) (omega arith)) j k (omega arith) n
    where
      place : suc j * w + k ≡ length (f x) + (j * w + k)
      place = omega (arith, suc-mul j w, h 0 (omega arith))

-- one element more at the end
pub each_last : {A : Type 0} (f : A → List ℕ) (l : List A) (x : A) → each f (l ++ x ∷ []) ≡ each f l ++ f x
unfolding each
each_last f [] x = append-nil (f x)
each_last f (y ∷ l) x = ap (λ z. f y ++ z) (each_last f l x) ∙ sym (append_assoc (f y) (each f l) (f x))

-- for two lists in a row
pub each_append : {A : Type 0} (f : A → List ℕ) (a b : List A) → each f (a ++ b) ≡ each f a ++ each f b
unfolding each
each_append f [] b = refl
each_append f (x ∷ a) b = ap (λ z. f x ++ z) (each_append f a b) ∙ sym (append_assoc (f x) (each f a) (each f b))
