-- The laws, as types: what holds of every well-formed table. proofs/Theorems.antt proves each.
use Rattle.std.specs.Prelude.{ℕ, ◌+◌, ◌*◌, ◌≤◌, ◌<◌, ◌≡◌, ◌↔◌, true, false, get_or, length}
use mathlib.Core.List.{List, [], ◌∷◌, ◌++◌, Memᴰ}
use Rattle.theory_resolution.specs.Names.{Parts, Above}
use Rattle.theory_resolution.specs.Table.{Urn, urn, Table}
use Rattle.theory_resolution.specs.Nodes.{nodes, is_node}
use Rattle.theory_resolution.specs.Direct.{Env}
use Rattle.theory_resolution.specs.Says.{Says, Given}
use Rattle.theory_resolution.specs.Machine.{Machine, Accepted}
use Rattle.theory_kept.specs.Kept.{EachUsed, OneWay, KeptBy, rung, rung_by, Kept, LostBy, Complete, Full}
use Rattle.theory_kept.specs.Decision.{any_mark, reachable, marks_to, keeps, shown, can_ring}
use Rattle.theory_kept.specs.Weight.{weight, weight_all}

-- the decision for one mark, where `env` has the search among the signals and `ring` says which one a list rings
pub record DecisionLaw (t : Table) (env : Env) (ring : List Urn → ℕ) (c : ℕ) (p : Parts) : Type 0 where
  -- the test passes exactly if the mark is kept
  pub kept_of : keeps t env c p ≡ true → KeptBy t ring c p
  pub of-kept : KeptBy t ring c p → keeps t env c p ≡ true
  -- else a list shows the loss, and none that is shorter does
  pub lost-of : keeps t env c p ≡ false → LostBy t ring c p (shown t env c p)
  pub shortest : (us : List Urn) → LostBy t ring c p us → length (shown t env c p) ≤ length us
  -- that list is made of nodes, of which those of the mark's category are the mark or its ancestors, and has at most as many as there are signals
  pub of-nodes : keeps t env c p ≡ false → (u : Urn) → Memᴰ u (shown t env c p) → is_node (nodes t) u.cat u.path ≡ true
  pub on-way : keeps t env c p ≡ false → (u : Urn) → Memᴰ u (shown t env c p) → u.cat ≡ c → Above u.path p
  pub few : keeps t env c p ≡ false → length (shown t env c p) ≤ length t.signals

-- what the list that shows a loss weighs, where w says what a URN weighs
pub record WeightLaw (t : Table) (env : Env) (c : ℕ) (p : Parts) : Type 0 where
  -- if no ancestor weighs more than what lies under it, and no node more than `most`: three times that is at most what all signals weigh,
  -- and eight times `most`
  pub bounded : (w : Urn → ℕ) (most : ℕ) → ((d : ℕ) (q r : Parts) → Above q r → w (urn d q) ≤ w (urn d r))
      → ((u : Urn) → is_node (nodes t) u.cat u.path ≡ true → w u ≤ most) → keeps t env c p ≡ false
      → 3 * weight w (shown t env c p) ≤ weight_all w t.signals + 8 * most

-- some list rings signal s
pub record RungBy (t : Table) (ring : List Urn → ℕ) (s : ℕ) : Type 0 where
  pub by : List Urn
  pub used : EachUsed t by
  pub rings : ring by ≡ s

-- which signals can ring
pub record RingLaw (t : Table) (env : Env) (ring : List Urn → ℕ) : Type 0 where
  -- the test passes exactly if some list rings the signal
  pub rings-of : (s : ℕ) → can_ring t env s ≡ true → RungBy t ring s
  pub of-rings : (s : ℕ) → RungBy t ring s → can_ring t env s ≡ true
  -- for each of them the marks shown ring it, and no shorter list does
  pub shown-rings : (j : ℕ) → j < length (reachable t env any_mark) → ring (marks_to t env any_mark j) ≡ get_or (reachable t env any_mark) j 0
  pub shown-used : (j : ℕ) → j < length (reachable t env any_mark) → EachUsed t (marks_to t env any_mark j)
  pub shortest : (j : ℕ) → j < length (reachable t env any_mark) → (us : List Urn) → EachUsed t us → ring us ≡ get_or (reachable t env any_mark) j 0
      → length (marks_to t env any_mark j) ≤ length us

-- kept marks
pub record KeptLaw (t : Table) (c : ℕ) (p : Parts) : Type 0 where
  -- what is kept goes on being said, whatever follows, also what goes another way
  pub goes_on : Kept t c p → (us vs : List Urn) → EachUsed t us → OneWay c us → Given us c p → Says t (rung t (us ++ vs)) c p
  -- it is enough to look at lists that end with the mark, after URNs of which those of its category are it or its ancestors
  pub at-end : ((us : List Urn) → EachUsed t us → ((u : Urn) → Memᴰ u us → u.cat ≡ c → Above u.path p) → Says t (rung t (us ++ urn c p ∷ [])) c p) ↔ Kept t c p
  -- a right machine keeps what the table keeps
  pub by-machine : (m : Machine) → Accepted t m → KeptBy t (rung_by t m) c p ↔ Kept t c p

-- whole tables
pub record CompleteLaw (t : Table) : Type 0 where
  -- all marks are kept exactly if there is a signal for every combination of them
  pub full : Complete t ↔ Full t
  -- where all given marks are kept, the signal says them and nothing else
  pub says-given : (us : List Urn) → EachUsed t us → ((c : ℕ) → OneWay c us) → ((c : ℕ) (p : Parts) → Given us c p → is_node (nodes t) c p ≡ true → Kept t c p)
      → (c : ℕ) (p : Parts) → c < t.cats → Says t (rung t us) c p ↔ (is_node (nodes t) c p ≡ true) × Given us c p
  -- so lists that give the same marks ring the same, whatever the order of their URNs
  pub any_order : (us vs : List Urn) → EachUsed t us → EachUsed t vs → ((c : ℕ) → OneWay c us) → ((c : ℕ) → OneWay c vs)
      → ((c : ℕ) (p : Parts) → Given us c p → is_node (nodes t) c p ≡ true → Kept t c p)
      → ((c : ℕ) (p : Parts) → is_node (nodes t) c p ≡ true → Given us c p ↔ Given vs c p) → rung t us ≡ rung t vs
  -- in a complete table that holds of all marks
  pub order-free : Complete t → (us vs : List Urn) → EachUsed t us → EachUsed t vs → ((c : ℕ) → OneWay c us) → ((c : ℕ) → OneWay c vs)
      → ((c : ℕ) (p : Parts) → is_node (nodes t) c p ≡ true → Given us c p ↔ Given vs c p) → rung t us ≡ rung t vs
