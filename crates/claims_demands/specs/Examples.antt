-- The marked examples m1 to m12, from the stored bytes of the tables and the bytes of the values.
use Rattle.std.specs.Prelude.{ℕ, ◌≡◌, List, [], ◌∷◌, map, take}
use Prim.Native.String.{String}
use Rattle.base_ascii.specs.Ascii.{bytes}
use Rattle.table_decode.specs.Written.{written}
use Rattle.machine_library.specs.Built.{built_from, buffer_from}
use Rattle.resolve_run.specs.declared.Resolution.{Resolution}
use Rattle.resolve_library.specs.Resolve.{direct_signal, plain_of}

-- default, internal, external
abbrev pub T1 : List ℕ
T1 = written ("source" ∷ []) ([] ∷ ("source:internal" ∷ []) ∷ ("source:external" ∷ []) ∷ [])

-- default, external, internal; low, low and external; high, high and external, high and internal
abbrev pub T3 : List ℕ
T3 =
    written ("source" ∷ "priority" ∷ [])
    ([]
    ∷ ("source:external" ∷ [])
    ∷ ("source:internal" ∷ [])
    ∷ ("priority:low" ∷ [])
    ∷ ("priority:low" ∷ "source:external" ∷ [])
    ∷ ("priority:high" ∷ [])
    ∷ ("priority:high" ∷ "source:external" ∷ [])
    ∷ ("priority:high" ∷ "source:internal" ∷ [])
    ∷ [])

-- default, internal, internal:vip@example, external
abbrev pub T4 : List ℕ
T4 = written ("source" ∷ []) ([] ∷ ("source:internal" ∷ []) ∷ ("source:internal:vip@example" ∷ []) ∷ ("source:external" ∷ []) ∷ [])

-- default, forward, recall:callback
abbrev pub T5 : List ℕ
T5 = written ("service" ∷ []) ([] ∷ ("service:forward" ∷ []) ∷ ("service:recall:callback" ∷ []) ∷ [])

-- what is asked of a table: direct resolution's signal over a list of URIs; the plain resolver's answer to a value; the image
-- that a build leaves in a buffer of so many bytes
pub data Asked : Type 0 where
  list : List String → Asked
  value : String → Asked
  image : ℕ → Asked

abbrev numbers : Resolution → List ℕ
numbers r = r.refusal ∷ r.signal ∷ r.used ∷ r.skipped ∷ []

abbrev pub answer : List ℕ → Asked → List ℕ
answer t (list l) = direct_signal t (map bytes l) ∷ []
answer t (value v) = numbers (plain_of t (bytes v))
answer t (image room) = take (built_from t room).len (buffer_from t room)

pub record Case : Type 0 where
  pub table : List ℕ
  pub asked : Asked
  pub right : List ℕ

abbrev case : List ℕ → Asked → List ℕ → Case
case t a r = record { table = t; asked = a; right = r }

-- an accepted value: its signal, used and skipped
abbrev signal : ℕ → ℕ → ℕ → List ℕ
signal s u k = 0 ∷ s ∷ u ∷ k ∷ []

-- m1 to m12 in their order
abbrev pub marked : List Case
marked =
    case T1 (list []) (0 ∷ [])
    ∷ case T1 (value "<urn:alert:duration:short>, <urn:alert:source:internal>") (signal 1 1 1)
    ∷ case T1 (value "<urn:alert:source:external:foo@example>") (signal 2 1 0)
    ∷ case T1 (value "<urn:alert:source>, <urn:alert:source:internal>") (signal 1 1 1)
    ∷ case T3 (value "<urn:alert:source:internal>, <urn:alert:source:unclassified>, <urn:alert:priority:high>") (signal 7 3 0)
    ∷ case T3 (value "<urn:alert:source:external>, <urn:alert:priority:low>") (signal 4 2 0)
    ∷ case T3 (value "<urn:alert:source:internal>, <urn:alert:priority:low>") (signal 2 2 0)
    ∷ case T3 (value "<urn:alert:priority:low>, <urn:alert:source:internal>, <urn:alert:source:external>") (signal 3 3 0)
    ∷ case T4 (value "<urn:alert:source:internal>, <urn:alert:source:internal:vip@example>") (signal 2 2 0)
    ∷ case T4 (value "<urn:alert:source:internal:foo@example>, <urn:alert:source:internal:vip@example>") (signal 1 2 0)
    ∷ case T5 (value "<urn:alert:service:recall>, <urn:alert:service:recall:callback>") (signal 2 2 0)
    ∷ case T1 (image 32)
    (3 ∷ 0 ∷ 1 ∷ 0 ∷ 0 ∷ 2 ∷ 0 ∷ 0 ∷ 0 ∷ 1
    ∷ 4 ∷ 0
    ∷ 0 ∷ 0 ∷ 1 ∷ 2 ∷ 3
    ∷ 1 ∷ 0 ∷ 1 ∷ 1 ∷ 1
    ∷ 2 ∷ 0 ∷ 2 ∷ 2 ∷ 2
    ∷ 0 ∷ 1 ∷ 3 ∷ 3 ∷ 3
    ∷ [])
    ∷ []

-- the one claim: every answer is right
abbrev pub Marked : Type 0
Marked = map (λ (x : Case). answer x.table x.asked) marked ≡ map (λ (x : Case). x.right) marked
