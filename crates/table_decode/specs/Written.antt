-- A table as it is stored, written from texts.
use Rattle.std.specs.Prelude.{ℕ, List, [], ◌∷◌, ◌++◌, map, length}
use Prim.Native.String.{String}
use Rattle.base_ascii.specs.Ascii.{bytes}

-- texts, each after its length byte
abbrev texts : List (List ℕ) → List ℕ
texts [] = []
texts (s ∷ l) = length s ∷ s ++ texts l

-- signals, each a count of URNs and their texts
abbrev signals : List (List (List ℕ)) → List ℕ
signals [] = []
signals (us ∷ l) = length us ∷ texts us ++ signals l

-- its categories' names, and the URNs of each signal, as bytes
abbrev pub written_bytes : List (List ℕ) → List (List (List ℕ)) → List ℕ
written_bytes names l = length names ∷ texts names ++ length l ∷ signals l

-- the same from ASCII texts
abbrev pub written : List String → List (List String) → List ℕ
written names l = written_bytes (map bytes names) (map (map bytes) l)
