-- The resolver of small images beside the machine resolver.
use Rattle.std.specs.Prelude.{ℕ, ◌<◌, ◌≡◌, List}
use Rattle.std.proofs.Math.Option.{Option}
use Rattle.theory_resolution.specs.Table.{Urn}
use Rattle.theory_resolution.specs.Direct.{AllUsed}
use Rattle.machine_image.specs.Walk.{walk_signal}
use Rattle.theory_minimal.specs.Proposal.{class_of, Fits}
use Rattle.small_image.specs.Small.{small_signal}
use Rattle.small_image.specs.Numbers.{numbers_in}
use Rattle.table_decode.specs.Tables.{table_of}
use Rattle.resolve_small.specs.Resolve.{resolved_small}
use Rattle.resolve_small.specs.Claims.{RightSmall}
use Rattle.resolve_library.specs.Resolve.{machine_of}

-- a small image that goes with an image: it is of right form, and after every list of used and skipped URIs its walk has the
-- image's signal
pub record GoesWith (t im small : List ℕ) : Type 0 where
  pub formed : RightSmall (table_of t) small
  pub one-signal : (l : List (Option Urn)) → AllUsed (table_of t) l → small_signal (table_of t) small l ≡ walk_signal (table_of t) im l

-- what one of the two resolvers follows the other refuses with 15
pub record OneOfTwo (t b v : List ℕ) : Type 0 where
  pub large : (machine_of t b v).refusal ≡ 0 → (resolved_small t b v).refusal ≡ 15
  pub small : (resolved_small t b v).refusal ≡ 0 → (machine_of t b v).refusal ≡ 15

-- a proposal that fits the machine in an image, each of its classes a byte
pub record Proposed (t im p : List ℕ) : Type 0 where
  pub byte : (j : ℕ) → class_of p j < 256
  pub fits : Fits (numbers_in (table_of t).cats im) p
