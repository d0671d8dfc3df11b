-- What holds of the plain resolver's tries, for every table and every value.
use Rattle.std.specs.Prelude.{ℕ, ◌≤◌, ◌≡◌, List}
use Rattle.base_numbers.specs.Numbers.{most_tries}
use Rattle.value_reader.specs.Value.{uris_of}
use Rattle.theory_resolution.specs.Table.{Urn}
use Rattle.theory_resolution.specs.Nodes.{nodes}
use Rattle.theory_resolution.specs.Direct.{State, env_of}
use Rattle.theory_resolution.specs.Tries.{tries, TriesLaw}
use Rattle.table_decode.specs.Tables.{table_refusal, table_of}
use Rattle.resolve_run.specs.declared.Resolution.{Resolution}
use Rattle.resolve_library.specs.declared.PlainResolution.{PlainResolution}
use Rattle.resolve_library.specs.Resolve.{plain_of, tries_in, plain_with}

-- an answer without its tries
abbrev pub untried : PlainResolution → Resolution
untried r = record { refusal = r.refusal; signal = r.signal; used = r.used; skipped = r.skipped }

pub record Tried (t : List ℕ) : Type 0 where
  -- the other four numbers are what they are without tries
  pub same : (v : List ℕ) → untried (plain_with t v) ≡ plain_of t v
  -- the tries are direct resolution's over the value's list; a refused resolution has none, and is zero but for its number
  pub counted : (v : List ℕ) → (plain_of t v).refusal ≡ 0 → (plain_with t v).tries ≡ tries_in t (uris_of v)
  pub none : (v : List ℕ) → ((plain_with t v).refusal ≡ 0 → ⊥) → plain_with t v ≡ record { refusal = (plain_with t v).refusal; signal = 0; used = 0; skipped = 0; tries = 0 }
  -- at most 9 tries for one URN, in any state
  pub few : table_refusal t ≡ 0 → (st : State) (u : Urn) → tries (env_of (table_of t)) (nodes (table_of t)) st u ≤ most_tries
  -- what is deeper than the deepest node need not be looked up: no search changes, and what is counted is what is looked up
  pub law : table_refusal t ≡ 0 → TriesLaw (table_of t)

-- what is proved
abbrev pub TriedClaim : Type 0
TriedClaim = (t : List ℕ) → Tried t
