-- What is claimed of the early answer, in the words of the grammar and of the theory.
use Rattle.std.specs.Prelude.{ℕ, ◌≤◌, ◌<◌, ◌≡◌, List, ◌++◌, length, take}
use Rattle.base_numbers.specs.Numbers.{most_entries, most_value_bytes}
use Rattle.value_reader.specs.Value.{refusal_of, uris_of}
use Rattle.value_reader.specs.Grammar.{White, Value}
use Rattle.theory_resolution.specs.Direct.{State, direct, used_of}
use Rattle.theory_resolution.specs.Settled.{Settled}
use Rattle.table_decode.specs.Tables.{table_refusal, table_of}
use Rattle.resolve_early.specs.FirstEntries.{Begins}
use Rattle.resolve_early.specs.Early.{taken_as, number_of, early_of}

-- direct resolution's state after a list of URIs
abbrev pub state_after : List ℕ → List (List ℕ) → State
state_after t us = direct (table_of t) (used_of (taken_as t us))

-- entries with the URIs us are read and enough: they stand at the value's front with a comma after each, and no sequence of symbols
-- leads to another signal, whatever follows them; or they are the whole value
pub data ReadEnough (t v : List ℕ) (us : List (List ℕ)) : Type 0 where
  settled : (b r : List ℕ) → v ≡ b ++ r → Begins White b us → Settled (table_of t) (state_after t us) → ReadEnough t v us
  ended : Value White v us → ReadEnough t v us

-- they are the entries that the question needs
pub record Needed (t v : List ℕ) (us : List (List ℕ)) : Type 0 where
  pub short : length v ≤ most_value_bytes
  pub formed : table_refusal t ≡ 0
  pub few : length us ≤ most_entries
  -- after fewer of them some symbols lead to another signal
  pub fewest : (k : ℕ) → k < length us → Settled (table_of t) (state_after t (take k us)) → ⊥
  pub read : ReadEnough t v us

-- of a table and a value, any bytes
pub record EarlyClaims (t v : List ℕ) : Type 0 where
  -- the entries that are needed, if they are there, are answered with the signal after them and their number
  pub answered : (us : List (List ℕ)) → Needed t v us → early_of t v ≡ record { refusal = 0; signal = (state_after t us).signal; entries = length us }
  -- and they are there wherever there is an answer
  pub there : (early_of t v).refusal ≡ 0 → (us : List (List ℕ)) × Needed t v us
  -- otherwise the full resolver's number is given, with signal 0 and no entries
  pub otherwise : ((early_of t v).refusal ≡ 0 → ⊥) → early_of t v ≡ record { refusal = number_of t v; signal = 0; entries = 0 }
  -- an accepted value is answered with the signal that all its URIs give
  pub same-signal : refusal_of v ≡ 0 → table_refusal t ≡ 0 → ((early_of t v).refusal ≡ 0) × ((early_of t v).signal ≡ (state_after t (uris_of v)).signal)
  -- of a value that goes on after the entries needed, what follows them does not matter
  pub behind : (us : List (List ℕ)) (b r after : List ℕ) → v ≡ b ++ r → Begins White b us → Settled (table_of t) (state_after t us) → Needed t v us
      → length (b ++ after) ≤ most_value_bytes → early_of t (b ++ after) ≡ early_of t v

-- what is proved
abbrev pub EarlyClaim : Type 0
EarlyClaim = (t v : List ℕ) → EarlyClaims t v
