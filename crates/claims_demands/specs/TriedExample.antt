-- A URN that costs 9 tries, so that no smaller number bounds them.
use Rattle.std.specs.Prelude.{ℕ, ◌≡◌, List, [], ◌∷◌}
use Rattle.base_ascii.specs.Ascii.{bytes}
use Rattle.table_decode.specs.Written.{written}
use Rattle.resolve_library.specs.Resolve.{plain_with}

-- default, and a path of 8 parts together with another category's node
abbrev deep : List ℕ
deep = written ("c" ∷ "d" ∷ []) ([] ∷ ("c:1:2:3:4:5:6:7:8" ∷ "d:x" ∷ []) ∷ [])

pub record TriedExample : Type 0 where
  -- all 8 parts and the root are tried, and only the root's candidate is a signal
  pub nine : plain_with deep (bytes "<urn:alert:c:1:2:3:4:5:6:7:8>") ≡ record { refusal = 0; signal = 0; used = 1; skipped = 0; tries = 9 }
