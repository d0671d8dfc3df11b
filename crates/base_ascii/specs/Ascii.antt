-- ASCII texts as bytes. Bytes are numbers.
use Rattle.std.specs.Prelude.{ℕ, zero, suc, List, [], ◌∷◌}
use Prim.Native.String.{String, len, char_at}
use Prim.Native.Char.{code}

-- n characters of an ASCII text from the i-th on, as bytes
abbrev pub bytes_from : String → ℕ → ℕ → List ℕ
bytes_from s i zero = []
bytes_from s i (suc n) = code (char_at s i) ∷ bytes_from s (suc i) n

-- an ASCII text as bytes
abbrev pub bytes : String → List ℕ
bytes s = bytes_from s 0 (len s)
