-- The answer among the available signals beside the plain resolver's.
use Rattle.std.specs.Prelude.{ℕ, ◌≡◌, ◌↔◌, List}
use Rattle.resolve_available.specs.Available.{available_of}
use Rattle.resolve_available.specs.Claims.{Strange, Everyone}
use Rattle.resolve_library.specs.Resolve.{plain_of}

-- of all bytes and every set
pub record BesidePlain (t : List ℕ) (set : ℕ) (v : List ℕ) : Type 0 where
  -- what the plain resolver refuses gets its number here too
  pub first : ((plain_of t v).refusal ≡ 0 → ⊥) → available_of t set v ≡ plain_of t v
  -- where it refuses nothing, 23 is given exactly for a bit that is no signal's
  pub strange : (plain_of t v).refusal ≡ 0 → (available_of t set v ≡ record { refusal = 23; signal = 0; used = 0; skipped = 0 }) ↔ Strange t set
  -- otherwise nothing is refused, and the counts are the plain resolver's
  pub counted : (plain_of t v).refusal ≡ 0 → (Strange t set → ⊥)
      → ((available_of t set v).refusal ≡ 0) × ((available_of t set v).used ≡ (plain_of t v).used) × ((available_of t set v).skipped ≡ (plain_of t v).skipped)
  -- and with every signal available the whole answer is
  pub everyone : (Strange t set → ⊥) → Everyone t set → available_of t set v ≡ plain_of t v
