-- Going along a list: over a run of bytes of one kind, or in strides. Structural on the list, with no fuel.
-- Assumes nothing.
use Rattle.std.specs.Prelude.{ℕ, zero, suc, ◌+◌, ◌-◌, Bool, ◌&&◌, List, [], ◌∷◌, get_or, drop}
use Rattle.base_lists.specs.Cuts.{run}

-- the position after the run at a position
unfoldable pub run_at : (ℕ → Bool) → List ℕ → ℕ → ℕ
run_at p s at = at + run p (drop at s)

-- the four bytes at a position pass a test
abbrev pub four_at : (ℕ → Bool) → List ℕ → ℕ → Bool
four_at p s at = p (get_or s at 0) && (p (get_or s (at + 1) 0) && (p (get_or s (at + 2) 0) && p (get_or s (at + 3) 0)))

-- a step at a position: end with a result, or go on at a later position and change what comes back from there
pub data Move (R : Type 0) : Type 0 where
  halt : R → Move R
  move : (R → R) → ℕ → Move R

abbrev pub next : {R : Type 0} → Move R → ℕ
next (halt r) = 0
next (move g n) = n

abbrev pub outcome : {R : Type 0} → Move R → R → R
outcome (halt r) x = r
outcome (move g n) x = g x

-- k: bytes still to be passed over before the next step; at: the position of the list's front
unfoldable pub walk : {R : Type 0} → (ℕ → Move R) → R → ℕ → ℕ → List ℕ → R
walk f d k at [] = outcome (f at) d
walk f d zero at (b ∷ l) = outcome (f at) (walk f d (next (f at) - suc at) (suc at) l)
walk f d (suc k) at (b ∷ l) = walk f d k (suc at) l

-- the walk over s from a position, step by step; d is what a step beyond the end would get
unfoldable pub walk_at : {R : Type 0} → (ℕ → Move R) → R → List ℕ → ℕ → R
walk_at f d s at = walk f d 0 at (drop at s)
