-- What the two resolvers answer.
use Rattle.std.specs.Prelude.{ℕ, cond, List, eqb}
use Rattle.value_reader.specs.Value.{uris_of}
use Rattle.theory_resolution.specs.Direct.{start, direct, used_of}
use Rattle.theory_resolution.specs.Tries.{tries_over}
use Rattle.machine_image.specs.Walk.{walk_signal}
use Rattle.table_decode.specs.Tables.{table_of}
use Rattle.resolve_run.specs.declared.Resolution.{Resolution}
use Rattle.resolve_small.specs.Resolve.{resolved_over}
pub use Rattle.resolve_run.specs.Answers.{taken_as, refused, answered, unless_refused}
use Rattle.resolve_library.specs.declared.PlainResolution.{PlainResolution}

-- direct resolution's signal over a list of URIs
abbrev pub direct_signal : List ℕ → List (List ℕ) → ℕ
direct_signal t uris = (direct (table_of t) (used_of (taken_as t uris))).signal

-- the signal of an image's walk over a list of URIs
abbrev pub walked_signal : List ℕ → List ℕ → List (List ℕ) → ℕ
walked_signal t im uris = walk_signal (table_of t) im (taken_as t uris)

-- the plain resolver: direct resolution over the value's list
unfoldable pub plain_of : List ℕ → List ℕ → Resolution
plain_of t v = unless_refused t v (answered t (uris_of v) (direct_signal t (uris_of v)))

-- the candidates that direct resolution tries over a list of URIs
abbrev pub tries_in : List ℕ → List (List ℕ) → ℕ
tries_in t uris = tries_over (table_of t) (start (table_of t).cats) (used_of (taken_as t uris))

-- an answer with its tries, of which a refused one has none
abbrev pub tried_as : Resolution → ℕ → PlainResolution
tried_as r n = record { refusal = r.refusal; signal = r.signal; used = r.used; skipped = r.skipped; tries = cond (eqb r.refusal 0) n 0 }

-- the plain resolver with the tries over the value's list
unfoldable pub plain_with : List ℕ → List ℕ → PlainResolution
plain_with t v = tried_as (plain_of t v) (tries_in t (uris_of v))

-- the machine resolver: the image as it is stored, followed over the value's list; 15 if it is of wrong form
abbrev pub machine_of : List ℕ → List ℕ → List ℕ → Resolution
machine_of t im v = resolved_over (table_of t).cats t im v
