-- The bytes of a log, from its calls.
use Rattle.std.specs.Prelude.{ℕ, ◌/◌, ◌%◌, List, [], ◌∷◌, ◌++◌, length}
use Rattle.log_library.specs.Log.{Call}

-- two bytes, low first
abbrev pub word : ℕ → List ℕ
word n = n % 256 ∷ n / 256 ∷ []

abbrev pub call_bytes : Call → List ℕ
call_bytes c = word (length c.value) ++ (c.value ++ (c.signal ∷ c.used ∷ c.skipped ∷ []))

unfoldable pub all_bytes : List Call → List ℕ
all_bytes [] = []
all_bytes (c ∷ cs) = call_bytes c ++ all_bytes cs

abbrev pub log_bytes : List Call → List ℕ
log_bytes cs = word (length cs) ++ all_bytes cs
