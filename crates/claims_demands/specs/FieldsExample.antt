-- Examples m5 and m8 as three fields of one message and m11 as two, and values at the limits of joining, so that the claims
-- about feeding are not empty.
use Rattle.std.specs.Prelude.{ℕ, ◌≡◌, List, [], ◌∷◌, ◌++◌, replicate}
use Prim.Native.Char.{code}
use Rattle.value_reader.specs.Examples.{entries_more}
use Rattle.base_ascii.specs.Ascii.{bytes}
use Rattle.resolve_record.specs.Record.{fresh}
use Rattle.resolve_run.specs.declared.Resolution.{Resolution}
use Rattle.claims_demands.specs.Examples.{T3, T5}
use Rattle.claims_demands.specs.Feeding.{fed_all, answers_to, AllAccepted, Joinable}

abbrev pub m5fields : List (List ℕ)
m5fields = bytes " <urn:alert:source:internal>" ∷ bytes "<urn:alert:source:unclassified> " ∷ bytes "<urn:alert:priority:high>" ∷ []

abbrev pub m8fields : List (List ℕ)
m8fields = bytes "<urn:alert:priority:low>" ∷ bytes "<urn:alert:source:internal>" ∷ bytes "<urn:alert:source:external>" ∷ []

-- the answer to a used URN
abbrev pub used_one : ℕ → Resolution
used_one s = record { refusal = 0; signal = s; used = 1; skipped = 0 }

-- a value of one entry and n + 2 bytes
abbrev pub long_value : ℕ → List ℕ
long_value n = code "<" ∷ (replicate n (code "a") ++ (code ">" ∷ []))

abbrev recall : List ℕ
recall = bytes "<urn:alert:service:recall>"

pub record FieldsExample : Type 0 where
  pub all-accepted : AllAccepted m5fields
  -- both categories stay open
  pub high-internal : fed_all T3 fresh m5fields ≡ record { signal = 7; status = replicate 8 0; values = 3 }
  -- the second value shuts the first category
  pub low : fed_all T3 fresh m8fields ≡ record { signal = 3; status = 1 ∷ replicate 7 0; values = 3 }
  -- T5: a recall is held at its node, the second, and its reason in a later value is still said
  pub held : fed_all T5 fresh (recall ∷ []) ≡ record { signal = 0; status = 3 ∷ replicate 7 0; values = 1 }
  pub reason : fed_all T5 fresh (recall ∷ bytes "<urn:alert:service:recall:callback>" ∷ []) ≡ record { signal = 2; status = replicate 8 0; values = 2 }
  -- a refused value is counted
  pub refused : fed_all T3 fresh (bytes "<a>," ∷ []) ≡ record { signal = 0; status = replicate 8 0; values = 1 }
  -- each value goes on from the one before
  pub answers : answers_to T3 fresh m5fields ≡ used_one 2 ∷ used_one 2 ∷ used_one 7 ∷ []
  -- 16 values, 64 entries or 4,096 bytes may be joined
  pub sixteen-values : Joinable (bytes "<a>") (replicate 15 (bytes "<a>"))
  pub most-entries : Joinable (entries_more 63) []
  pub most_bytes : Joinable (long_value 4094) []
