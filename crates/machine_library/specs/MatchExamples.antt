-- What `match_urn` answers, with the bytes compared, counted by hand.
use Rattle.std.specs.Prelude.{ℕ, ◌≡◌, List, [], ◌∷◌, map}
use Prim.Native.String.{String}
use Rattle.base_ascii.specs.Ascii.{bytes}
use Rattle.table_decode.specs.Written.{written}
use Rattle.machine_library.specs.declared.matching.Match.{Match}
use Rattle.machine_library.specs.Matching.{refused_match, match_of}

-- the nodes: 1 internal, 2 high, 3 internal:vip@example, 4 external
abbrev pub four_nodes : List ℕ
four_nodes =
    written ("source" ∷ "priority" ∷ [])
    ([] ∷ ("source:internal" ∷ []) ∷ ("priority:high" ∷ []) ∷ ("source:internal:vip@example" ∷ []) ∷ ("source:external" ∷ []) ∷ [])

pub record Case : Type 0 where
  pub uri : String
  pub right : Match

abbrev case : String → Match → Case
case u m = record { uri = u; right = m }

-- a used URN's category, its deepest node, 1 if it is that node, and the bytes compared
abbrev used : ℕ → ℕ → ℕ → ℕ → Match
used c k w n = record { refusal = 0; used = 1; category = c; node = k; whole = w; compared = n }

abbrev skipped : Match
skipped = record { refusal = 0; used = 0; category = 0; node = 0; whole = 0; compared = 0 }

abbrev pub matches : List Case
matches =
    -- 8 of internal, 9 of internal:vip@example with the colon that the URN lacks, and the e of external
    case "urn:alert:source:internal" (used 0 1 1 18)
    -- the i of both internals, and 8 of external
    ∷ case "urn:alert:source:external" (used 0 4 1 10)
    -- 8 of internal and 20 of the leaf above the URN, where the search ends
    ∷ case "urn:alert:source:internal:vip@example:x" (used 0 3 0 28)
    -- 8 of internal, 10 of internal:vip@example up to its v, and the e of external
    ∷ case "urn:alert:source:internal:foo" (used 0 1 0 19)
    -- int and the e that the URN lacks, twice, and the e of external
    ∷ case "urn:alert:source:int" (used 0 0 0 9)
    -- 8 of internal, which is not above the URN, 9 of internal:vip@example, and the e of external
    ∷ case "urn:alert:source:internally" (used 0 0 0 18)
    -- the h of high, and no byte of the other category
    ∷ case "urn:alert:priority:low" (used 1 0 0 1)
    ∷ case "urn:alert:priority:high" (used 1 2 1 4)
    -- in any letter case
    ∷ case "URN:Alert:Priority:High:X" (used 1 2 0 4)
    -- no category of the table, no part, no alert URN
    ∷ case "urn:alert:duration:short" skipped
    ∷ case "urn:alert:source" skipped
    ∷ case "urn:alert:source:internal:" skipped
    ∷ []

pub record MatchExamples : Type 0 where
  pub answers : map (λ (x : Case). match_of four_nodes (bytes x.uri)) matches ≡ map (λ (x : Case). x.right) matches
  -- bytes that end too soon are no table
  pub refused : match_of [] (bytes "urn:alert:source:internal") ≡ refused_match 5
