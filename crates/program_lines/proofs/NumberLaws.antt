-- Digits, numbers and bytes in hex.
-- Assumes nothing.
use mathlib.Core.Path.{◌≡◌, refl, ap, ◌∙◌}
use mathlib.Core.List.{List, [], ◌∷◌}
use Rattle.std.specs.List.{fold}
use Prim.Native.Nat.{ℕ, ◌+◌, ◌*◌, ◌<◌}
use native.Mathlib.Numerals.{add-one}
use lib.ListN.{length, get_or, set}
use Rattle.base_lists.proofs.Tabulated.{tabulate-length}
use Rattle.base_lists.proofs.Over.{over-set}
use Rattle.base_lists.specs.Lists.{tabulate, over}
use Rattle.program_lines.specs.Numbers.{more_digits, number_of, hex_digit, hex_pair}

-- the digits, one after the other
pub number-fold : (n : ℕ) (s : List ℕ) → fold more_digits n s ≡ number_of n s
unfolding number_of
number-fold n [] = refl
number-fold n (b ∷ s) = number-fold (more_digits n b) s

-- one store more
pub over-more : (f : ℕ → ℕ) (r b : List ℕ) (k v : ℕ) → r ≡ over (tabulate f k) b → k < length b → v ≡ f k → set r k v ≡ over (tabulate f (k + 1)) b
unfolding tabulate
over-more f r b k v e h g = rw (e, add-one, g) (over-set (tabulate f k) b k (f k) (tabulate-length f k) h)

pub over_none : (f : ℕ → ℕ) (b : List ℕ) → b ≡ over (tabulate f 0) b
unfolding over tabulate
over_none f b = refl

pub pair_is : (s : List ℕ) (k h l : ℕ) → h ≡ hex_digit (get_or s (2 * k) 0) → l ≡ hex_digit (get_or s (2 * k + 1) 0) → h * 16 + l ≡ hex_pair s k
pair_is s k h l e f = ap (λ (x : ℕ). x * 16 + l) e ∙ ap (λ (x : ℕ). hex_digit (get_or s (2 * k) 0) * 16 + x) f
