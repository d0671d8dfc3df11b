-- What holds of every proposal that is checked, written or proposed.
use Rattle.std.specs.Prelude.{ℕ, ◌-◌, ◌≤◌, ◌<◌, ◌≡◌, ◌⊎◌, ◌↔◌, true, List, [], ◌++◌, length, replicate}
use Rattle.std.proofs.Math.Option.{Option}
use Rattle.base_bytes.specs.Built.{accepted}
use Rattle.theory_resolution.specs.Table.{Urn}
use Rattle.theory_resolution.specs.Direct.{AllUsed}
use Rattle.machine_image.specs.Image.{machine_image, state_count}
use Rattle.table_decode.specs.Tables.{table_of, table_refusal}
use Rattle.machine_library.specs.Built.{check_from}
use Rattle.machine_library.specs.Claims.{TooManyStates}
use Rattle.theory_minimal.specs.Proposal.{class_count, Fits, ByFirstStates, SameButNumbers}
use Rattle.theory_minimal.specs.Test.{proposed}
use Rattle.small_image.specs.Small.{small_form}
use Rattle.small_image.specs.Numbers.{small_of}
use Rattle.small_image.specs.Claims.{SmallClaim}
use Rattle.small_library.specs.Smaller.{machine_from, classes_refusal, small_from, small_buffer, bytes_of, propose_refusal, proposed_from, proposed_buffer}

-- the check, both ways: what is wrong with the table or the image comes first, and 27 is given exactly if that is right and the
-- proposal does not fit
pub record CheckExactly (t im p : List ℕ) : Type 0 where
  pub before : (check_from t im ≡ 0 → ⊥) → classes_refusal t im p ≡ check_from t im
  pub fitting : (classes_refusal t im p ≡ 0) ↔ ((check_from t im ≡ 0) × Fits (machine_from t im) p)
  pub twenty-seven : (classes_refusal t im p ≡ 27) ↔ ((check_from t im ≡ 0) × (Fits (machine_from t im) p → ⊥))

-- the numbers that the check gives, and those that the writer and the proposer give
abbrev pub ClassesNumber : ℕ → Type 0
ClassesNumber n = (n ≡ 0) ⊎ (((4 ≤ n) × (n ≤ 12)) ⊎ (((15 ≤ n) × (n ≤ 17)) ⊎ (n ≡ 27)))

abbrev pub SmallNumber : ℕ → Type 0
SmallNumber n = ClassesNumber n ⊎ (n ≡ 14)

pub record Numbers (t im p : List ℕ) (room : ℕ) : Type 0 where
  pub checks : ClassesNumber (classes_refusal t im p)
  pub writes : SmallNumber (small_from t im p room).refusal
  pub proposes : SmallNumber (proposed_from t im room).refusal

-- the writer, for a proposal that is not refused
pub record Writes (t im p : List ℕ) : Type 0 where
  -- wherever there is room the small image is written, with zeros after it; else there is 14
  pub written : (room : ℕ) → length (small_of (table_of t) im p) ≤ room
      → (small_from t im p room ≡ accepted (length (small_of (table_of t) im p)))
      × (small_buffer t im p room ≡ small_of (table_of t) im p ++ replicate (room - length (small_of (table_of t) im p)) 0)
  pub fourteen : (room : ℕ) → room < length (small_of (table_of t) im p) → (small_from t im p room).refusal ≡ 14
  -- it is of right form, no longer than 33,411 bytes, and has no more classes than the image has states
  pub right-form : small_form (table_of t) (small_of (table_of t) im p) ≡ true
  pub short : length (small_of (table_of t) im p) ≤ 33411
  pub no_more : class_count p ≤ state_count im
  -- its walk has the large image's signal at every point, and the claims hold of it
  pub walks : (before after : List (Option Urn)) → AllUsed (table_of t) (before ++ after) → SmallClaim (table_of t) im p before after

-- a refused writer or proposer: the length is 0, and the buffer is all zero
pub record Refused (t im : List ℕ) (room : ℕ) : Type 0 where
  pub no-image : (p : List ℕ) → ((small_from t im p room).refusal ≡ 0 → ⊥) → ((small_from t im p room).len ≡ 0) × (small_buffer t im p room ≡ replicate room 0)
  pub no-proposal : ((proposed_from t im room).refusal ≡ 0 → ⊥) → ((proposed_from t im room).len ≡ 0) × (proposed_buffer t im room ≡ replicate room 0)

-- the proposer, both ways
pub record ProposeExactly (t im : List ℕ) : Type 0 where
  pub before : (check_from t im ≡ 0 → ⊥) → propose_refusal t im ≡ check_from t im
  pub twenty-seven : (propose_refusal t im ≡ 27) ↔ ((check_from t im ≡ 0) × ((p : List ℕ) → classes_refusal t im p ≡ 0 → ⊥))

-- the proposer, where it is not refused: one class for each state, accepted by the check, numbered by first states; every accepted
-- proposal is the same but for the numbers of its classes
pub record Proposes (t im : List ℕ) : Type 0 where
  pub one_each : length (bytes_of (proposed (machine_from t im))) ≡ state_count im
  pub accepted-itself : classes_refusal t im (bytes_of (proposed (machine_from t im))) ≡ 0
  pub numbered : ByFirstStates (bytes_of (proposed (machine_from t im)))
  pub only : (p : List ℕ) → classes_refusal t im p ≡ 0 → SameButNumbers (state_count im) p (bytes_of (proposed (machine_from t im)))
  pub as_many : (p : List ℕ) → classes_refusal t im p ≡ 0 → class_count p ≡ class_count (bytes_of (proposed (machine_from t im)))

-- what is proved
abbrev pub CheckClaim : Type 0
CheckClaim = (t im p : List ℕ) → CheckExactly t im p

abbrev pub NumbersClaim : Type 0
NumbersClaim = (t im p : List ℕ) (room : ℕ) → Numbers t im p room

abbrev pub WritesClaim : Type 0
WritesClaim = (t im p : List ℕ) → classes_refusal t im p ≡ 0 → Writes t im p

abbrev pub RefusedClaim : Type 0
RefusedClaim = (t im : List ℕ) (room : ℕ) → Refused t im room

abbrev pub ProposeClaim : Type 0
ProposeClaim = (t im : List ℕ) → ProposeExactly t im × (propose_refusal t im ≡ 0 → Proposes t im)

-- the image of a table's own machine is never refused by the proposer; with no classes at all the check refuses it with 27
abbrev pub OwnClaim : Type 0
OwnClaim =
    (t : List ℕ) → table_refusal t ≡ 0 → (TooManyStates t → ⊥)
    → (propose_refusal t (machine_image (table_of t)) ≡ 0) × (classes_refusal t (machine_image (table_of t)) [] ≡ 27)
