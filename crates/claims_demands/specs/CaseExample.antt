-- Capital letters: in a value they do not matter, in a table they are refused.
use Rattle.std.specs.Prelude.{ℕ, ◌≡◌, List, [], ◌∷◌, map}
use Rattle.base_ascii.specs.Ascii.{bytes}
use Rattle.value_reader.specs.Value.{uris_of}
use Rattle.table_decode.specs.Written.{written}
use Rattle.table_decode.specs.Tables.{table_refusal}
use Rattle.resolve_library.specs.Resolve.{plain_of}
use Rattle.claims_demands.specs.Examples.{T4}

-- scheme, category, parts and provider with capital letters
abbrev pub sent : List ℕ
sent = bytes "<URN:Alert:Source:Internal>, <urn:ALERT:SOURCE:INTERNAL:VIP@Example>"

pub record CaseExample : Type 0 where
  -- T4: as m9
  pub heard : plain_of T4 sent ≡ record { refusal = 0; signal = 2; used = 2; skipped = 0 }
  -- the URIs stay as sent
  pub as-sent : uris_of sent ≡ bytes "URN:Alert:Source:Internal" ∷ bytes "urn:ALERT:SOURCE:INTERNAL:VIP@Example" ∷ []
  -- one capital letter: in the category's name, in a URN's category, part and provider; none
  pub stored-capital :
      map table_refusal
      (written ("sourcE" ∷ []) ([] ∷ ("source:internal" ∷ []) ∷ [])
      ∷ written ("source" ∷ []) ([] ∷ ("Source:internal" ∷ []) ∷ [])
      ∷ written ("source" ∷ []) ([] ∷ ("source:interNal" ∷ []) ∷ [])
      ∷ written ("source" ∷ []) ([] ∷ ("source:internal:vip@examplE" ∷ []) ∷ [])
      ∷ written ("source" ∷ []) ([] ∷ ("source:internal:vip@example" ∷ []) ∷ [])
      ∷ [])
      ≡ 7 ∷ 7 ∷ 7 ∷ 7 ∷ 0 ∷ []
