-- What demand 3 says of an accepted image, said of the small image that an accepted proposal makes of it, for all bytes.
use Rattle.std.specs.Prelude.{ℕ, ◌<◌, ◌≡◌, List, get_or}
use Rattle.table_decode.specs.Tables.{table_of}
use Rattle.small_image.specs.Numbers.{small_of}
use Rattle.small_library.specs.Smaller.{classes_refusal}
use Rattle.resolve_small.specs.Resolve.{resolved_small}
use Rattle.resolve_library.specs.Resolve.{plain_of, machine_of}
use Rattle.claims_demands.specs.Demands.{WalkClaim}

pub record SmallDemand (t im p : List ℕ) : Type 0 where
  -- over every list of URIs as bytes its walk has direct resolution's signal at every point, says only what was given, never
  -- unsays it, and changes at most as often as the largest number of parts in one signal
  pub walks : (before after : List (List ℕ)) → WalkClaim 0 t (small_of (table_of t) im p) before after
  -- whatever the value, its resolver answers as the plain resolver does, and as the machine resolver does by the large image
  pub plain-alike : (v : List ℕ) → resolved_small t (small_of (table_of t) im p) v ≡ plain_of t v
  pub machine-alike : (v : List ℕ) → resolved_small t (small_of (table_of t) im p) v ≡ machine_of t im v

-- for every table, every image, and every proposal of bytes that the check accepts for it
abbrev pub SmallDemands : Type 0
SmallDemands = (t im p : List ℕ) → ((j : ℕ) → get_or p j 0 < 256) → classes_refusal t im p ≡ 0 → SmallDemand t im p
