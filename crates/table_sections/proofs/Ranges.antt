-- What `all` and `any` of a range say.
use Prim.Native.Nat.{ℕ, zero, suc, ◌+◌, ◌<◌}
use mathlib.Core.Path.{◌≡◌, refl, ap, ap₂, sym, ◌∙◌}
use mathlib.Core.Bool.{Bool, not, ◌&&◌, and-true}
use mathlib.Core.List.{[], ◌∷◌, ◌++◌}
use native.Mathlib.Nat.{zero-add}
use native.Mathlib.Omega.{arith}
use Rattle.std.specs.List.{list_all, list_any, range_with_len}
use Rattle.base_lists.specs.Lists.{tabulate}
use Rattle.base_lists.specs.Tests.{all, any, no_two}
use Rattle.base_lists.proofs.Chains.{all-list, any-list}
use Rattle.base_lists.proofs.Tests.{two-snoc, all_join, all_alike, any-alike}

range-end : (a n : ℕ) → range_with_len a (suc n) ≡ range_with_len a n ++ (a + n) ∷ []
range-end a zero = let e : a + 0 ≡ a = omega arith in rw e
range-end a (suc n) = let e : a + 1 + n ≡ a + suc n = omega arith in ap (λ l. a ∷ l) (range-end (a + 1) n ∙ rw e)

range-tab : (n : ℕ) → range_with_len 0 n ≡ tabulate (λ i. i) n
unfolding tabulate
range-tab zero = refl
range-tab (suc n) = range-end 0 n ∙ rw (range-tab n, zero-add)

-- a test of each number below n, as one of the elements of a table
module _ {A : Type 0} (p : ℕ → Bool) (q : A → Bool) (f : ℕ → A) (n : ℕ) (h : (i : ℕ) → i < n → p i ≡ q (f i)) where
  pub all-range : list_all p (range_with_len 0 n) ≡ all q (tabulate f n)
  all-range = all-list p (range_with_len 0 n) ∙ ap (all p) (range-tab n) ∙ all_alike p q (λ i. i) f n h

  pub any-range : list_any p (range_with_len 0 n) ≡ any q (tabulate f n)
  any-range = any-list p (range_with_len 0 n) ∙ ap (any p) (range-tab n) ∙ any-alike p q (λ i. i) f n h

-- no two are the same: none is the same as one before it
none-before : {A : Type 0} (q : A → A → Bool) (f : ℕ → A) (n : ℕ)
    → all (λ i. not (any (λ x. q x (f i)) (tabulate f i))) (tabulate (λ i. i) n) ≡ no_two q (tabulate f n)
unfolding tabulate all no_two
none-before q f zero = refl
none-before q f (suc n) =
    all_join (λ i. not (any (λ x. q x (f i)) (tabulate f i))) (tabulate (λ i. i) n) (n ∷ [])
    ∙ ap₂ ◌&&◌ (none-before q f n) (and-true (not (any (λ x. q x (f n)) (tabulate f n)))) ∙ sym (two-snoc q (tabulate f n) (f n))

pub none-again : {A : Type 0} (q : A → A → Bool) (f : ℕ → A) (n : ℕ)
    → list_all (λ i. not (any (λ x. q x (f i)) (tabulate f i))) (range_with_len 0 n) ≡ no_two q (tabulate f n)
none-again q f n = all-range (λ i. not (any (λ x. q x (f i)) (tabulate f i))) (λ i. not (any (λ x. q x (f i)) (tabulate f i))) (λ i. i) n (λ i h. refl)
    ∙ none-before q f n
