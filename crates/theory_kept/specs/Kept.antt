-- Which marks a table keeps. A mark is a node of the table; a URN gives it if it is that node or lies under it.
use Rattle.std.specs.Prelude.{ℕ, ◌<◌, ◌≡◌, ◌⊎◌, Bool, true, get_or, length}
use Rattle.std.proofs.Math.Option.{some}
use mathlib.Core.List.{List, [], map, Memᴰ}
use Rattle.theory_resolution.specs.Names.{Parts, Above}
use Rattle.theory_resolution.specs.Table.{Urn, Table, Row, find}
use Rattle.theory_resolution.specs.Nodes.{nodes, is_node, RootOrNode}
use Rattle.theory_resolution.specs.Direct.{direct, Used}
use Rattle.theory_resolution.specs.Says.{Says, Given}
use Rattle.theory_resolution.specs.Machine.{Machine, walk, signal_at}
use Rattle.theory_resolution.specs.Available.{direct_available}

-- every URN of the list is a used one of the table
abbrev pub EachUsed : Table → List Urn → Type 0
EachUsed t us = (u : Urn) → Memᴰ u us → Used t u

-- the list goes one way in category c: of any two of its URNs there, one is the other or an ancestor of it
abbrev pub OneWay : ℕ → List Urn → Type 0
OneWay c us = (u v : Urn) → Memᴰ u us → Memᴰ v us → u.cat ≡ c → v.cat ≡ c → Above u.path v.path ⊎ Above v.path u.path

-- p of category c is kept where `ring` says which signal a list of used URNs rings: every list that gives p, and goes one way in c, rings
-- a signal that says p, whatever else it gives and in whichever order
abbrev pub KeptBy : Table → (List Urn → ℕ) → ℕ → Parts → Type 0
KeptBy t ring c p = (us : List Urn) → EachUsed t us → OneWay c us → Given us c p → Says t (ring us) c p

-- the signal of direct resolution; while only some signals are available; and of the walk of a machine
abbrev pub rung : Table → List Urn → ℕ
rung t us = (direct t us).signal

abbrev pub rung_available : Table → (ℕ → Bool) → List Urn → ℕ
rung_available t on us = (direct_available t on us).signal

abbrev pub rung_by : Table → Machine → List Urn → ℕ
rung_by t m us = signal_at m (walk t m (map some us))

-- the table keeps p of category c
abbrev pub Kept : Table → ℕ → Parts → Type 0
Kept t = KeptBy t (rung t)

-- a list that shows that it does not
pub record LostBy (t : Table) (ring : List Urn → ℕ) (c : ℕ) (p : Parts) (us : List Urn) : Type 0 where
  pub used : EachUsed t us
  pub one_way : OneWay c us
  pub given : Given us c p
  pub unsaid : Says t (ring us) c p → ⊥

abbrev pub Lost : Table → ℕ → Parts → List Urn → Type 0
Lost t = LostBy t (rung t)

-- the table keeps every mark
abbrev pub Complete : Table → Type 0
Complete t = (c : ℕ) (p : Parts) → c < t.cats → is_node (nodes t) c p ≡ true → Kept t c p

-- there is a signal for every choice of a node, or the root, in each category
abbrev pub Full : Table → Type 0
Full t = (r : Row) → length r ≡ t.cats → ((c : ℕ) → c < t.cats → RootOrNode (nodes t) c (get_or r c [])) → (s : ℕ) × (find t r ≡ some s)
