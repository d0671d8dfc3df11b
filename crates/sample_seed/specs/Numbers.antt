-- The numbers of a seed, and what each of them chooses.
use Rattle.std.specs.Prelude.{ℕ, zero, suc, ◌+◌, ◌*◌, ◌/◌, ◌%◌}

-- the number after x
abbrev pub next_of : ℕ → ℕ
next_of x = (x * 1664525 + 1013904223) % 4294967296

-- which of n the number x chooses, from 0 on; 0 if there is none to choose from
unfoldable pub choice_of : ℕ → ℕ → ℕ
choice_of x zero = 0
choice_of x (suc n) = x / 65536 % suc n
