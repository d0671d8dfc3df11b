-- Laws of a list that is filled from the front.
use Prim.Native.Nat.{ℕ, ◌<◌, ◌+◌, ◌≤◌}
use mathlib.Core.Path.{◌≡◌, ◌∙◌, sym}
use mathlib.Core.List.{List}
use native.Mathlib.Decide.{ℕ_discrete}
use native.Mathlib.Omega.{arith}
use lib.ListN.{get_or, length, set}
use lib.Seq.{get_or-set_same, get_or-set_other, ext_get_or}
use Rattle.base_lists.specs.Lists.{tabulate}
use Rattle.base_lists.proofs.Tabulated.{tabulate-at, tabulate-length}

-- the first i entries of q are f 0, f 1, ...
abbrev pub Filled : (ℕ → ℕ) → List ℕ → ℕ → Type 0
Filled f q i = (j : ℕ) → j < i → get_or q j 0 ≡ f j

-- nothing is filled at first
pub filled_none : (f : ℕ → ℕ) (q : List ℕ) → Filled f q 0
filled_none f q j h = absurd (omega arith)

-- one store more
pub filled_more : (f : ℕ → ℕ) (q : List ℕ) (i x : ℕ) → i < length q → x ≡ f i → Filled f q i → Filled f (set q i x) (i + 1)
filled_more f q i x h e a j b = go (ℕ_discrete j i)
  where
    go : Dec (j ≡ i) → get_or (set q i x) j 0 ≡ f j
    go (yes d) = rw d (get_or-set_same q i x 0 h ∙ e)
    go (no d) = get_or-set_other q i j x 0 d ∙ a j (omega arith)

-- a list that is filled to its end is the table of the values
pub filled-all : (f : ℕ → ℕ) (q : List ℕ) (n i : ℕ) → length q ≡ n → n ≤ i → Filled f q i → q ≡ tabulate f n
filled-all f q n i l h a =
    ext_get_or 0 q (tabulate f n) (l ∙ sym (tabulate-length f n)) (λ j b. a j (omega arith) ∙ sym (tabulate-at f n j 0 (omega arith)))

-- one that is filled with the elements of another is it
pub filled_copy : (a q : List ℕ) (i : ℕ) → length q ≡ length a → length a ≤ i → Filled (λ j. get_or a j 0) q i → q ≡ a
filled_copy a q i l h f = ext_get_or 0 q a l (λ j b. f j (omega arith))
