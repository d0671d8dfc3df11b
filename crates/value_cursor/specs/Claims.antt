-- What is claimed of the byte rules. The proof is in proofs/ByteLaws.antt.
-- Assumes nothing.
use Rattle.std.specs.Prelude.{◌≡◌, true, ℕ, ◌<◌}
use Rattle.value_cursor.specs.Bytes.{in_class}

-- no byte rule takes a number that is no byte
abbrev pub ClassesOfBytes : Type 0
ClassesOfBytes = (k b : ℕ) → in_class k b ≡ true → b < 256
