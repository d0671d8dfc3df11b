-- Tests over a range of numbers, as the standard library says them, are those of a table.
use Prim.Native.Nat.{ℕ, suc, zero, ◌+◌, ◌<◌, ◌≤◌}
use mathlib.Core.Path.{◌≡◌, refl, ap, ap₂, sym, ◌∙◌}
use mathlib.Core.Bool.{Bool, not, ◌&&◌, and-true}
use mathlib.Core.List.{List, [], ◌∷◌}
use lib.ListN.{length, get_or, take}
use lib.Seq.{length-take-le, get_or-take}
use Rattle.std.proofs.Common.{zero-add}
use Rattle.std.specs.List.{list_all, list_any, range_with_len}
use Rattle.std.proofs.lemmas.List.FromFn.{length-range_with_len, get_or-range_with_len}
use Rattle.base_lists.specs.Lists.{tabulate}
use Rattle.base_lists.specs.Tests.{all, any, no_two}
use Rattle.base_lists.proofs.Chains.{all-list, any-list}
use Rattle.base_lists.proofs.Tabulated.{tabulate-entries}
use Rattle.base_lists.proofs.Tests.{all_alike, any-alike, all_join, two-snoc}

-- the first n of a list
pub taken : (s : List ℕ) (n : ℕ) → n ≤ length s → take n s ≡ tabulate (λ i. get_or s i 0) n
taken s n h = sym (tabulate-entries 0 (take n s) (λ i. get_or s i 0) n (length-take-le n s h) (λ k l. sym (get_or-take n s k 0 l)))

range-tab : (a n : ℕ) → range_with_len a n ≡ tabulate (λ j. a + j) n
range-tab a n = sym (tabulate-entries 0 (range_with_len a n) (λ j. a + j) n (length-range_with_len a n) (λ k h. sym (get_or-range_with_len a n k 0 h)))

pub all-range : {A : Type 0} (p : ℕ → Bool) (q : A → Bool) (f : ℕ → A) (a n : ℕ) → ((i : ℕ) → i < n → p (a + i) ≡ q (f i))
    → list_all p (range_with_len a n) ≡ all q (tabulate f n)
all-range p q f a n h = all-list p (range_with_len a n) ∙ ap (all p) (range-tab a n) ∙ all_alike p q (λ j. a + j) f n h

pub all_from_zero : {A : Type 0} (p : ℕ → Bool) (q : A → Bool) (f : ℕ → A) (n : ℕ) → ((i : ℕ) → i < n → p i ≡ q (f i))
    → list_all p (range_with_len 0 n) ≡ all q (tabulate f n)
all_from_zero p q f n h = all-range p q f 0 n (λ i l. ap p (zero-add i) ∙ h i l)

pub any_from_zero : {A : Type 0} (p : ℕ → Bool) (q : A → Bool) (f : ℕ → A) (n : ℕ) → ((i : ℕ) → i < n → p i ≡ q (f i))
    → list_any p (range_with_len 0 n) ≡ any q (tabulate f n)
any_from_zero p q f n h =
    any-list p (range_with_len 0 n) ∙ ap (any p) (range-tab 0 n) ∙ any-alike p q (λ j. 0 + j) f n (λ i l. ap p (zero-add i) ∙ h i l)

-- no two are alike if none is like one before it
rows : {A : Type 0} (q : A → A → Bool) (f : ℕ → A) (n : ℕ)
    → all (λ i. not (any (λ y. q y (f i)) (tabulate f i))) (tabulate (λ i. i) n) ≡ no_two q (tabulate f n)
unfolding all tabulate no_two
rows q f zero = refl
rows q f (suc n) =
    all_join (λ i. not (any (λ y. q y (f i)) (tabulate f i))) (tabulate (λ i. i) n) (n ∷ [])
    ∙ ap₂ ◌&&◌ (rows q f n) (and-true (not (any (λ y. q y (f n)) (tabulate f n))))
    ∙ sym (two-snoc q (tabulate f n) (f n))

pub two_from_zero : {A : Type 0} (q : A → A → Bool) (f : ℕ → A) (n : ℕ)
    → list_all (λ i. not (any (λ y. q y (f i)) (tabulate f i))) (range_with_len 0 n) ≡ no_two q (tabulate f n)
two_from_zero q f n = all_from_zero _ (λ i. not (any (λ y. q y (f i)) (tabulate f i))) (λ i. i) n (λ i h. refl) ∙ rows q f n
