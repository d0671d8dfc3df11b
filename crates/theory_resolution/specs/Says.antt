-- What a signal says, and what a list of URNs gives.
use Rattle.std.specs.Prelude.{ℕ, ◌<◌, ◌≡◌, ◌≢◌}
use mathlib.Core.List.{List, [], Memᴰ}
use Rattle.theory_resolution.specs.Names.{Parts, Above}
use Rattle.theory_resolution.specs.Table.{Urn, Table, place}

-- signal s says p in category c: p has at least one part, and is the place there or an ancestor of it
pub record Says (t : Table) (s c : ℕ) (p : Parts) : Type 0 where
  pub known : c < t.cats
  pub some-part : p ≢ []
  pub above : Above p (place t s c)

-- p in category c was given: it is one of the URNs or an ancestor of one
pub record Given (us : List Urn) (c : ℕ) (p : Parts) : Type 0 where
  pub by : Urn
  pub listed : Memᴰ by us
  pub cat : by.cat ≡ c
  pub above : Above p by.path
