-- What holds of the table that well-formed bytes say.
use Rattle.std.specs.Prelude.{ℕ, ◌≤◌, ◌<◌, ◌≡◌, ◌≢◌, true, length}
use mathlib.Core.List.{List, [], Memᴰ}
use Rattle.base_numbers.specs.Numbers.{most_categories, most_nodes, most_signals, most_urn_parts}
use Rattle.base_lists.specs.Tests.{no_two}
use Rattle.theory_resolution.specs.Table.{Urn, Table, WellFormed, row_of}
use Rattle.theory_resolution.specs.Nodes.{nodes}
use Rattle.table_places.specs.Verdict.{same_cat}

pub record Accepted (T : Table) : Type 0 where
  pub well : WellFormed T
  -- 1 to 8 categories, at most 32 signals and 64 nodes, at most 8 parts in a path
  pub some-category : 1 ≤ T.cats
  pub few-categories : T.cats ≤ most_categories
  pub few-signals : length T.signals ≤ most_signals
  pub few-nodes : length (nodes T) ≤ most_nodes
  pub few-parts : (sig : List Urn) → Memᴰ sig T.signals → (u : Urn) → Memᴰ u sig → length u.path ≤ most_urn_parts
  -- a URN's category is one of the table's, its path has a part, and no signal has two URNs of one category
  pub known : (sig : List Urn) → Memᴰ sig T.signals → (u : Urn) → Memᴰ u sig → u.cat < T.cats
  pub some-part : (sig : List Urn) → Memᴰ sig T.signals → (u : Urn) → Memᴰ u sig → u.path ≢ []
  pub once : (sig : List Urn) → Memᴰ sig T.signals → no_two same_cat sig ≡ true
  -- every category has a URN, and no two signals have the same places
  pub used : (c : ℕ) → c < T.cats → (sig : List Urn) × Memᴰ sig T.signals × (u : Urn) × Memᴰ u sig × (u.cat ≡ c)
  pub rows : (i j : ℕ) → i < length T.signals → j < length T.signals → row_of T i ≡ row_of T j → i ≡ j
