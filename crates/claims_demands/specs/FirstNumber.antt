-- Which number a resolver gives: the value's comes first, then the table's, then the image's.
use Rattle.std.specs.Prelude.{ℕ, ◌<◌, ◌≡◌, ◌↔◌, ◌⊎◌, List}
use Rattle.value_reader.specs.Grammar.{White}
use Rattle.value_reader.specs.Claims.{Given}
use Rattle.table_decode.specs.Tables.{table_of}
use Rattle.table_decode.specs.Claims.{TableGiven}
use Rattle.machine_library.specs.Claims.{RightForm}
use Rattle.resolve_small.specs.Resolve.{resolved_small}
use Rattle.resolve_small.specs.Claims.{RightSmall}
use Rattle.resolve_library.specs.Resolve.{plain_of, machine_of}

-- the value's number; the table's, if the value is accepted; the resolver's own, if the table is accepted too
pub data NumberGiven (t v : List ℕ) (Own : ℕ → Type 0) (n : ℕ) : Type 0 where
  of-value : 0 < n → Given White v n → NumberGiven t v Own n
  of-table : 0 < n → Given White v 0 → TableGiven t n → NumberGiven t v Own n
  own : Given White v 0 → TableGiven t 0 → Own n → NumberGiven t v Own n

-- 15 unless the image is right, and then 0
abbrev pub FifteenUnless : Type 0 → ℕ → Type 0
FifteenUnless Right n = ((n ≡ 0) × Right) ⊎ ((n ≡ 15) × (Right → ⊥))

-- both ways: the plain resolver has no number of its own but 0, the other two have 15
pub record FirstNumber (t : List ℕ) : Type 0 where
  pub plain : (v : List ℕ) (n : ℕ) → (plain_of t v).refusal ≡ n ↔ NumberGiven t v (λ k. k ≡ 0) n
  pub machine : (im v : List ℕ) (n : ℕ) → (machine_of t im v).refusal ≡ n ↔ NumberGiven t v (FifteenUnless (RightForm (table_of t) im)) n
  pub small : (small v : List ℕ) (n : ℕ) → (resolved_small t small v).refusal ≡ n ↔ NumberGiven t v (FifteenUnless (RightSmall (table_of t) small)) n
