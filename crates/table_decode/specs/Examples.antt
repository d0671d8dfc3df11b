-- Tables at the limits, and one for each refusal number.
use Rattle.std.specs.Prelude.{ℕ, List, [], ◌∷◌, ◌++◌, map, replicate, take, drop}
use Prim.Native.String.{String}
use Prim.Native.Char.{code}
use Rattle.base_ascii.specs.Ascii.{bytes}
use Rattle.base_text.specs.Text.{text_of}
use Rattle.table_decode.specs.Written.{written_bytes, written}

-- a signal with one URN
abbrev pub one : String → List String
one u = u ∷ []

-- no table has less: one category, and one signal beside the silent one
abbrev pub least : List ℕ
least = written ("c" ∷ []) ([] ∷ one "c:a" ∷ [])

-- none has more: 8 categories, 32 signals, 64 nodes, and a path of 8 parts
abbrev pub fullest : List ℕ
fullest =
    written ("a" ∷ "b" ∷ "c" ∷ "d" ∷ "e" ∷ "f" ∷ "g" ∷ "h" ∷ [])
    ([]
    ∷ map one
    ("a:1:2:3:4:5:6:7:8"
    ∷ "b:a" ∷ "b:a:x" ∷ "b:b:x" ∷ "b:c:x" ∷ "b:d:x"
    ∷ "c:a" ∷ "c:a:x" ∷ "c:b:x" ∷ "c:c:x" ∷ "c:d:x"
    ∷ "d:a:x" ∷ "d:b:x" ∷ "d:c:x" ∷ "d:d:x"
    ∷ "e:a:x" ∷ "e:b:x" ∷ "e:c:x" ∷ "e:d:x"
    ∷ "f:a:x" ∷ "f:b:x" ∷ "f:c:x" ∷ "f:d:x"
    ∷ "g:a:x" ∷ "g:b:x" ∷ "g:c:x" ∷ "g:d:x"
    ∷ "h:a:x" ∷ "h:b:x" ∷ "h:c:x" ∷ "h:d:x"
    ∷ []))

-- a label of n letters; a name of a label of 27 and a provider of n
abbrev pub label : ℕ → List ℕ
label n = replicate n (code "a")

abbrev pub provided : ℕ → List ℕ
provided n = label 27 ++ (code "@" ∷ label n)

-- the longest name: 55 bytes
abbrev pub name : List ℕ
name = provided 27

-- a URN of this category with 255 bytes, its last part after 3 or 4 of 55
abbrev pub long : List ℕ → List ℕ
long c = text_of (c ∷ name ∷ name ∷ name ∷ name ∷ provided 1 ∷ [])

abbrev pub long_named : List ℕ
long_named = text_of (name ∷ name ∷ name ∷ name ∷ provided 3 ∷ [])

-- a signal with 8 URNs of 255 bytes
abbrev pub long_urns : List (List ℕ)
long_urns = map (λ c. long (bytes c)) ("a" ∷ "b" ∷ "c" ∷ "d" ∷ "e" ∷ "f" ∷ "g" ∷ []) ++ (long_named ∷ [])

-- the longest table: 8,192 bytes
abbrev pub longest : List ℕ
longest =
    written_bytes (map bytes ("a" ∷ "b" ∷ "c" ∷ "d" ∷ "e" ∷ "f" ∷ "g" ∷ []) ++ (name ∷ []))
    ([]
    ∷ long_urns
    ∷ drop 1 long_urns
    ∷ (take 1 long_urns ++ drop 2 long_urns)
    ∷ (take 2 long_urns ++ drop 3 long_urns)
    ∷ (text_of (bytes "a" ∷ name ∷ name ∷ name ∷ label 7 ∷ []) ∷ take 2 (drop 1 long_urns))
    ∷ [])

-- one more than the most: 8,193 bytes; 9 categories; a name of 56 bytes; a label of 28 letters, as a name and as its provider;
-- 33 signals; 9 URNs of a signal; 9 parts of a path
abbrev pub over_tables : List (List ℕ)
over_tables =
    (longest ++ (0 ∷ []))
    ∷ written ("a" ∷ "b" ∷ "c" ∷ "d" ∷ "e" ∷ "f" ∷ "g" ∷ "h" ∷ "i" ∷ []) ([] ∷ [])
    ∷ written_bytes (provided 28 ∷ []) ([] ∷ (text_of (provided 28 ∷ bytes "a" ∷ []) ∷ []) ∷ [])
    ∷ written_bytes (label 28 ∷ []) ([] ∷ (text_of (label 28 ∷ bytes "a" ∷ []) ∷ []) ∷ [])
    ∷ written_bytes (bytes "c" ∷ []) ([] ∷ (text_of (bytes "c" ∷ (bytes "a@" ++ label 28) ∷ []) ∷ []) ∷ [])
    ∷ written ("c" ∷ []) ([] ∷ map one (replicate 32 "c:a"))
    ∷ written ("c" ∷ []) ([] ∷ replicate 9 "c:a" ∷ [])
    ∷ written ("c" ∷ []) ([] ∷ one "c:1:2:3:4:5:6:7:8:9" ∷ [])
    ∷ []

-- refused with 4 to 12, in this order: too long; no byte; no category; a name of a hyphen; a category without a URN; two URNs
-- of one category; a URN of signal 0; one place twice; 65 nodes
abbrev pub refused_tables : List (List ℕ)
refused_tables =
    replicate 8193 0
    ∷ []
    ∷ (0 ∷ [])
    ∷ written ("-" ∷ []) ([] ∷ [])
    ∷ written ("c" ∷ []) ([] ∷ [])
    ∷ written ("c" ∷ []) ([] ∷ ("c:a" ∷ "c:b" ∷ []) ∷ [])
    ∷ written ("c" ∷ []) (one "c:a" ∷ [])
    ∷ written ("c" ∷ []) ([] ∷ one "c:a" ∷ one "c:a" ∷ [])
    ∷ written ("c" ∷ [])
    ([]
    ∷ map one
    ("c:a:1:2:3:4:5:6:7" ∷ "c:b:1:2:3:4:5:6:7" ∷ "c:c:1:2:3:4:5:6:7" ∷ "c:d:1:2:3:4:5:6:7"
    ∷ "c:e:1:2:3:4:5:6:7" ∷ "c:f:1:2:3:4:5:6:7" ∷ "c:g:1:2:3:4:5:6:7" ∷ "c:h:1:2:3:4:5:6:7"
    ∷ "c:i"
    ∷ []))
    ∷ []
