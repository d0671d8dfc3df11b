-- What is claimed of the answer among the available signals, for all bytes and every set.
use Rattle.std.specs.Prelude.{ℕ, ◌≤◌, ◌<◌, ◌≡◌, ◌↔◌, true, List, ◌++◌, length}
use Rattle.value_reader.specs.Value.{uris_of}
use Rattle.theory_resolution.specs.Names.{Parts}
use Rattle.theory_resolution.specs.Table.{most_parts}
use Rattle.theory_resolution.specs.Direct.{start, direct, step, step_uri, used_of, changes}
use Rattle.theory_resolution.specs.Says.{Says, Given}
use Rattle.theory_resolution.specs.Available.{counts, env_available}
use Rattle.node_search.specs.Uses.{used_urn}
use Rattle.table_decode.specs.Tables.{table_refusal, table_of, category_names}
use Rattle.resolve_run.specs.Answers.{taken_as, number_of, answered}
use Rattle.resolve_available.specs.Available.{has_bit, available_signal, available_of}

-- a bit of the set that is no signal's
abbrev pub Strange : List ℕ → ℕ → Type 0
Strange t set = (s : ℕ) × (length (table_of t).signals ≤ s) × (has_bit set s ≡ true)

-- the set has each signal of the table; signal 0 always counts
abbrev pub Everyone : List ℕ → ℕ → Type 0
Everyone t set = (s : ℕ) → 0 < s → s < length (table_of t).signals → has_bit set s ≡ true

-- of a value
pub record Answers (t : List ℕ) (set : ℕ) (v : List ℕ) : Type 0 where
  -- what the plain resolver refuses, 1 to 12, is refused with the same number, whatever the set
  pub first : (number_of t v ≡ 0 → ⊥) → available_of t set v ≡ record { refusal = number_of t v; signal = 0; used = 0; skipped = 0 }
  -- then 23 is given exactly for a bit that is no signal's
  pub strange : number_of t v ≡ 0 → (available_of t set v ≡ record { refusal = 23; signal = 0; used = 0; skipped = 0 }) ↔ Strange t set
  -- else it is answered, with the numbers of used and skipped entries
  pub given : number_of t v ≡ 0 → (Strange t set → ⊥) → available_of t set v ≡ answered t (uris_of v) (available_signal t set (uris_of v))
  -- with every signal available this is direct resolution's signal
  pub everyone : number_of t v ≡ 0 → (Strange t set → ⊥) → Everyone t set
      → available_of t set v ≡ answered t (uris_of v) (direct (table_of t) (used_of (taken_as t (uris_of v)))).signal

-- over every list of URIs as bytes, used and skipped, at the point between before and after
pub record Over (t : List ℕ) (set : ℕ) (before after : List (List ℕ)) : Type 0 where
  -- the signal is available, and one of the table's
  pub available : (counts (has_bit set) (available_signal t set before) ≡ true) × (available_signal t set before < length (table_of t).signals)
  -- it says only given URNs or their ancestors
  pub only-given : (c : ℕ) (p : Parts) → Says (table_of t) (available_signal t set before) c p → Given (used_of (taken_as t before)) c p
  -- what it said at this point it still says at every later one
  pub still-says : (c : ℕ) (p : Parts) → Says (table_of t) (available_signal t set before) c p → Says (table_of t) (available_signal t set (before ++ after)) c p
  -- over the list it changes at most as often as the largest number of parts that one signal names in all its URNs
  pub few-changes : changes (λ st. st.signal) (λ st uri. step_uri (step (env_available (table_of t) (has_bit set))) st (used_urn (category_names t) uri))
      (start (table_of t).cats) (before ++ after) ≤ most_parts (table_of t).signals

-- what is proved
abbrev pub AnswerClaim : Type 0
AnswerClaim = (t : List ℕ) (set : ℕ) (v : List ℕ) → Answers t set v

abbrev pub OverClaim : Type 0
OverClaim = (t : List ℕ) (set : ℕ) → table_refusal t ≡ 0 → (before after : List (List ℕ)) → Over t set before after
