-- What a builder answers.
use Rattle.std.specs.Prelude.{ℕ}
use Rattle.base_bytes.specs.declared.Built.{Built}

-- it is refused with this number
abbrev pub refused : ℕ → Built
refused n = record { refusal = n; len = 0 }

-- it wrote so many bytes
abbrev pub accepted : ℕ → Built
accepted n = record { refusal = 0; len = n }
