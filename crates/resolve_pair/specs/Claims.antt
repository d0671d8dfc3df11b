-- What is claimed of ring and lamp chosen apart.
use Rattle.std.specs.Prelude.{ℕ, ◌<◌, ◌≡◌, ◌↔◌, true, List, ◌++◌, map, length}
use Rattle.base_lists.specs.Lists.{member_by}
use Rattle.value_reader.specs.Value.{refusal_of}
use Rattle.theory_resolution.specs.Names.{Name, same_name}
use Rattle.theory_resolution.specs.Direct.{direct, used_of}
use Rattle.node_search.specs.Uses.{used_urn}
use Rattle.theory_pairs.specs.Pairs.{pairs, pair_number, PairLaw}
use Rattle.table_decode.specs.Tables.{table_refusal, table_of, category_names}
use Rattle.resolve_run.specs.Answers.{taken_as}
use Rattle.resolve_pair.specs.Pair.{signal_in, pair_of}

-- a name that is a category of both
abbrev pub Shared : List ℕ → List ℕ → Type 0
Shared ring lamp = (x : Name) × (member_by same_name x (category_names ring) ≡ true) × (member_by same_name x (category_names lamp) ≡ true)

-- of a value
pub record PairAnswers (ring lamp v : List ℕ) : Type 0 where
  -- the value's number comes first, then the ring table's, then the lamp table's
  pub of-value : (refusal_of v ≡ 0 → ⊥) → pair_of ring lamp v ≡ record { refusal = refusal_of v; ring = 0; lamp = 0 }
  pub of-ring : refusal_of v ≡ 0 → (table_refusal ring ≡ 0 → ⊥) → pair_of ring lamp v ≡ record { refusal = table_refusal ring; ring = 0; lamp = 0 }
  pub of-lamp : refusal_of v ≡ 0 → table_refusal ring ≡ 0 → (table_refusal lamp ≡ 0 → ⊥) → pair_of ring lamp v ≡ record { refusal = table_refusal lamp; ring = 0; lamp = 0 }
  -- then 24 is given exactly for a category in common, and else both signals
  pub shared : refusal_of v ≡ 0 → table_refusal ring ≡ 0 → table_refusal lamp ≡ 0 → (pair_of ring lamp v ≡ record { refusal = 24; ring = 0; lamp = 0 }) ↔ Shared ring lamp
  pub given : refusal_of v ≡ 0 → table_refusal ring ≡ 0 → table_refusal lamp ≡ 0 → (Shared ring lamp → ⊥)
      → pair_of ring lamp v ≡ record { refusal = 0; ring = signal_in ring v; lamp = signal_in lamp v }

-- the signal of a table alone over a list of URIs
abbrev pub alone : List ℕ → List (List ℕ) → ℕ
alone t uris = (direct (table_of t) (used_of (taken_as t uris))).signal

-- and of the table of all pairs, whose categories have the names of both tables' in order
abbrev pub together : List ℕ → List ℕ → List (List ℕ) → ℕ
together ring lamp uris = (direct (pairs (table_of ring) (table_of lamp)) (used_of (map (used_urn (category_names ring ++ category_names lamp)) uris))).signal

-- over every list of URIs, with two well-formed tables that have no category in common: the table of pairs is at the pair of what the
-- two give alone, and at no other
pub record Together (ring lamp : List ℕ) (uris : List (List ℕ)) : Type 0 where
  pub agrees : together ring lamp uris ≡ pair_number (table_of lamp) (alone ring uris) (alone lamp uris)
  pub only : (r l : ℕ) → l < length (table_of lamp).signals → together ring lamp uris ≡ pair_number (table_of lamp) r l → (alone ring uris ≡ r) × (alone lamp uris ≡ l)
  pub law : PairLaw (table_of ring) (table_of lamp)

-- what is proved
abbrev pub PairClaim : Type 0
PairClaim = (ring lamp v : List ℕ) → PairAnswers ring lamp v

abbrev pub TogetherClaim : Type 0
TogetherClaim = (ring lamp : List ℕ) → table_refusal ring ≡ 0 → table_refusal lamp ≡ 0 → (Shared ring lamp → ⊥) → (uris : List (List ℕ)) → Together ring lamp uris
