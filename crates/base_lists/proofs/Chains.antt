-- The words of this crate as those of the standard library, which its iterators ensure.
use Prim.Native.Nat.{ℕ, suc, zero, ◌<◌}
use mathlib.Core.Path.{◌≡◌, refl, ap, ◌∙◌}
use mathlib.Core.Bool.{Bool, true, not, ◌&&◌, and-true}
use mathlib.Core.List.{List, [], ◌∷◌}
use native.Mathlib.Omega.{arith}
use lib.ListN.{length}
use lib.Dec.{eqb}
use Rattle.std.specs.List.{list_all, list_any, prefix_len}
use Rattle.std.specs.Prelude.{IsTrue, ◌↔◌}
use Rattle.base_lists.specs.Lists.{tabulate, all_below}
use Rattle.base_lists.specs.Tests.{all, any}
use Rattle.base_lists.specs.Cuts.{run, up_to}
use Rattle.base_lists.proofs.Bools.{by_test, same_test}
use Rattle.base_lists.proofs.Below.{all_of, all-to}
use Rattle.base_lists.proofs.Tests.{all_join}

pub all-list : {A : Type 0} (p : A → Bool) (xs : List A) → list_all p xs ≡ all p xs
unfolding all
all-list p [] = refl
all-list p (x ∷ xs) = ap (λ b. p x && b) (all-list p xs)

pub any-list : {A : Type 0} (p : A → Bool) (xs : List A) → list_any p xs ≡ any p xs
unfolding any
any-list p [] = refl
any-list p (x ∷ xs) = by_test (p x) (λ e. rw e) (λ e. rw e (any-list p xs))

-- how many pass at the front, as `take_while` and `count` say it
pub run-prefix : (p : ℕ → Bool) (s : List ℕ) → prefix_len p s ≡ run p s
unfolding run
run-prefix p [] = refl
run-prefix p (x ∷ s) = by_test (p x) (λ e. rw e (omega (arith, run-prefix p s))) (λ e. rw e)

-- how many stand before the first c
pub up_to-prefix : (c : ℕ) (s : List ℕ) → prefix_len (λ x. not (eqb x c)) s ≡ length (up_to c s)
unfolding up_to
up_to-prefix c [] = refl
up_to-prefix c (x ∷ s) = by_test (eqb x c) (λ e. rw e) (λ e. rw e (omega (arith, up_to-prefix c s)))

-- a test of every number below n, as `all` of a range says it
pub all_below-is : (b : Bool) (n : ℕ) (f : ℕ → Bool) → IsTrue b ↔ ((i : ℕ) → i < n → f i ≡ true) → b ≡ all_below n f
all_below-is b n f h =
    same_test b (all_below n f) (λ e. all_of n f (h.0 e)) (λ e. h.1 (all-to n f e))

-- the same of the elements of a table
pub all_tabulated-is : {A : Type 0} (b : Bool) (n : ℕ) (p : A → Bool) (f : ℕ → A) → IsTrue b ↔ ((i : ℕ) → i < n → p (f i) ≡ true)
    → b ≡ all p (tabulate f n)
unfolding all_below tabulate all
all_tabulated-is b n p f h = all_below-is b n (λ i. p (f i)) h ∙ below n
  where
    below : (k : ℕ) → all_below k (λ i. p (f i)) ≡ all p (tabulate f k)
    below zero = refl
    below (suc k) = rw (all_join p (tabulate f k) (f k ∷ []), below k, and-true (p (f k)))
