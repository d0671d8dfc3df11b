-- The whole value: its refusal number, and the answers about its entries.
-- Assumes nothing.
use Rattle.std.specs.Prelude.{ℕ, cond, List, [], map, length, get_or, drop, take, ltb, eqb}
use Rattle.base_numbers.specs.Numbers.{most_entries, most_value_bytes, no_entry, value_misfit, value_too_long}
use Rattle.value_cursor.specs.Reading.{Reading, unfit, spans, reading_of}
use Rattle.value_cursor.specs.Pass.{nowhere}
use Rattle.value_cursor.specs.declared.alert_param.Span.{Span}

-- 2: the value does not fit; 3: over 64 entries; 0: neither
abbrev pub reading_refusal : Reading → ℕ
reading_refusal unfit = value_misfit
reading_refusal (spans ps) = cond (ltb most_entries (length ps)) 3 0

-- the refusal number of a value: 1 over 4,096 bytes, then as above
unfoldable pub refusal_of : List ℕ → ℕ
refusal_of s = cond (ltb most_value_bytes (length s)) value_too_long (reading_refusal (reading_of s))

abbrev pub spans_in : Reading → List Span
spans_in unfit = []
spans_in (spans ps) = ps

-- the parts of an accepted value that are its URIs, in order; none of a refused one
unfoldable pub spans_of : List ℕ → List Span
spans_of s = cond (eqb (refusal_of s) 0) (spans_in (reading_of s)) []

-- the bytes of a part
abbrev pub part_of : List ℕ → Span → List ℕ
part_of s p = take p.len (drop p.start s)

-- a value's list: its entries' URIs in order
unfoldable pub uris_of : List ℕ → List (List ℕ)
uris_of s = map (part_of s) (spans_of s)

-- the number of entries, 0 if the value is refused
unfoldable pub entries_of : List ℕ → ℕ
entries_of s = length (uris_of s)

-- the URI of entry k, counted from 0; empty if the value is refused or has no entry k
unfoldable pub entry_of : List ℕ → ℕ → List ℕ
entry_of s k = get_or (uris_of s) k []

-- where the URI of entry k lies; 0 and 0 if the value is refused or has no entry k
unfoldable pub span_of : List ℕ → ℕ → Span
span_of s k = get_or (spans_of s) k nowhere

-- the refusal number of entry k: the value's, 18 if there is no entry k, else 0
unfoldable pub entry_refusal_of : List ℕ → ℕ → ℕ
entry_refusal_of s k = cond (eqb (refusal_of s) 0) (cond (ltb k (entries_of s)) 0 no_entry) (refusal_of s)
