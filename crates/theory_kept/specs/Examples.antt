-- Examples: tables, what they keep, the lists that show what they lose, and a signal that never rings.
use Rattle.std.specs.Prelude.{ℕ, ◌≡◌, Bool, true, false, not, List, [], ◌∷◌, map, eqb}
use Prim.Native.String.{String}
use Rattle.base_ascii.specs.Ascii.{bytes}
use Rattle.theory_resolution.specs.Names.{Parts}
use Rattle.theory_resolution.specs.Table.{Urn, urn, Table}
use Rattle.theory_resolution.specs.Direct.{env_of}
use Rattle.theory_resolution.specs.Available.{env_available}
use Rattle.theory_kept.specs.Kept.{rung}
use Rattle.theory_kept.specs.Decision.{keeps, shown, can_ring}

abbrev path : List String → Parts
path = map bytes

-- one part of category 0, and of category 1
abbrev pub source : String → Urn
source x = urn 0 (path (x ∷ []))

abbrev pub priority : String → Urn
priority x = urn 1 (path (x ∷ []))

-- signals by source and priority, without low priority/internal source
abbrev pub T3 : Table
T3 =
    record {
      cats = 2;
      signals =
          []
          ∷ (source "external" ∷ [])
          ∷ (source "internal" ∷ [])
          ∷ (priority "low" ∷ [])
          ∷ (priority "low" ∷ source "external" ∷ [])
          ∷ (priority "high" ∷ [])
          ∷ (priority "high" ∷ source "external" ∷ [])
          ∷ (priority "high" ∷ source "internal" ∷ [])
          ∷ [];
    }

-- forward, and recall:callback; no signal says recall alone
abbrev pub T5 : Table
T5 = record { cats = 1; signals = [] ∷ (source "forward" ∷ []) ∷ (urn 0 (path ("recall" ∷ "callback" ∷ [])) ∷ []) ∷ [] }

-- one signal that says two things, and none that says only one of them
abbrev pub Both : Table
Both = record { cats = 2; signals = [] ∷ (source "internal" ∷ priority "high" ∷ []) ∷ [] }

abbrev pub kept : Table → Urn → Bool
kept t u = keeps t (env_of t) u.cat u.path

abbrev pub shows : Table → Urn → List Urn
shows t u = shown t (env_of t) u.cat u.path

-- while signal 6, high priority and external source, is not available
abbrev but6 : ℕ → Bool
but6 s = not (eqb s 6)

pub record Examples : Type 0 where
  -- of T3's marks two are kept
  pub external : kept T3 (source "external") ≡ true
  pub high : kept T3 (priority "high") ≡ true
  -- the other two displace each other, whichever comes second
  pub internal : kept T3 (source "internal") ≡ false
  pub after-low : shows T3 (source "internal") ≡ priority "low" ∷ source "internal" ∷ []
  pub rings-low : rung T3 (priority "low" ∷ source "internal" ∷ []) ≡ 3
  pub low : kept T3 (priority "low") ≡ false
  pub after-internal : shows T3 (priority "low") ≡ source "internal" ∷ priority "low" ∷ []
  pub rings-internal : rung T3 (source "internal" ∷ priority "low" ∷ []) ≡ 2
  -- what no signal says alone is lost alone, and does not hinder what lies under it
  pub recall : kept T5 (source "recall") ≡ false
  pub alone : shows T5 (source "recall") ≡ source "recall" ∷ []
  pub callback : kept T5 (urn 0 (path ("recall" ∷ "callback" ∷ []))) ≡ true
  -- a signal that nothing leads to
  pub never : can_ring Both (env_of Both) 1 ≡ false
  -- with one signal absent T3 loses a mark that it keeps otherwise
  pub absent : keeps T3 (env_available T3 but6) 1 (priority "high").path ≡ false
  pub after-external : shown T3 (env_available T3 but6) 1 (priority "high").path ≡ source "external" ∷ priority "high" ∷ []
