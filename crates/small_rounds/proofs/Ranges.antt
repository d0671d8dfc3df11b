-- Tests and searches over a range of numbers, as the standard library says them, in the words of base_lists.
use Prim.Native.Nat.{ℕ, zero, suc, ◌+◌, ◌≤◌}
use mathlib.Core.Path.{◌≡◌, refl, ap, sym, ◌∙◌}
use mathlib.Core.Bool.{Bool}
use native.Mathlib.Omega.{arith}
use Rattle.std.proofs.Common.{add-zero, zero-add}
use Rattle.std.specs.List.{list_all, range_with_len, find}
use Rattle.std.specs.Prelude.{Option, None, Some}
use Rattle.std.specs.Option.{unwrap_or, option_map}
use Rattle.std.proofs.lemmas.List.FromFn.{length-range_with_len, get_or-range_with_len}
use Rattle.base_lists.specs.Lists.{all_below, tabulate}
use Rattle.base_lists.specs.Tests.{all}
use Rattle.base_lists.specs.Search.{seek}
use Rattle.base_lists.proofs.Search.{seek-sought}
use Rattle.base_lists.proofs.Bools.{by_test}
use Rattle.base_lists.proofs.Below.{all_of, all-to}
use Rattle.base_lists.proofs.Chains.{all-list, all_tabulated-is}
use Rattle.base_lists.proofs.Tabulated.{tabulate-entries}

range-tab : (n : ℕ) → range_with_len 0 n ≡ tabulate (λ i. i) n
range-tab n = sym (tabulate-entries 0 (range_with_len 0 n) (λ i. i) n (length-range_with_len 0 n) (λ k h. sym (get_or-range_with_len 0 n k 0 h ∙ zero-add k)))

-- a test of each number of a range from 0
pub all-range : (f : ℕ → Bool) (n : ℕ) → list_all f (range_with_len 0 n) ≡ all_below n f
all-range f n =
    all-list f (range_with_len 0 n)
    ∙ ap (all f) (range-tab n)
    ∙ sym (all_tabulated-is (all_below n f) n f (λ i. i) (λ e. all-to n f e, λ h. all_of n f h))

-- the first of a range that passes, or the end
pub seek-range : (f : ℕ → Bool) (a n : ℕ) → unwrap_or (find f (range_with_len a n)) (a + n) ≡ seek f a n
unfolding seek
seek-range f a zero = add-zero a
seek-range f a (suc n) = by_test (f a) (λ e. rw e) (λ e. rw e (let i : a + suc n ≡ a + 1 + n = omega arith in rw i (seek-range f (a + 1) n)))

-- what a search in a range from 0 found, or its end
pub found-range : (f : ℕ → Bool) (n : ℕ) (r : Option ℕ) → option_map (λ x. x) r ≡ find f (range_with_len 0 n) → (unwrap_or r n ≡ seek f 0 n) × (unwrap_or r n ≤ n)
found-range f n r e =
    let i : unwrap_or r n ≡ seek f 0 n = same r ∙ ap (λ o. unwrap_or o n) e ∙ ap (unwrap_or (find f (range_with_len 0 n))) (sym (zero-add n)) ∙ seek-range f 0 n in
    (i, omega (arith, i, (seek-sought f 0 n).within))
  where
    same : (r : Option ℕ) → unwrap_or r n ≡ unwrap_or (option_map (λ x. x) r) n
    same None = refl
    same (Some x) = refl
