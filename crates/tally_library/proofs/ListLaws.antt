-- A record's address fits in a word.
use Prim.Native.Nat.{ℕ, ◌*◌, ◌<◌, ◌^◌}
use native.Mathlib.Omega.{arith}

-- the address of an element of twelve bytes fits
pub index-fits : (s n : ℕ) → s < n → n * 12 < 2 ^ 63 → s * 12 < 2 ^ 64
index-fits s n h room = omega (arith, h, room)
