-- What the definitions of nodes, symbols, machines and walks mean: each is said once more, as laws about it.
-- proofs/Order.antt and proofs/MachineMeaning.antt prove each.
use Rattle.std.specs.Prelude.{ℕ, suc, ◌+◌, ◌*◌, ◌<◌, ◌≡◌, ◌⊎◌, ◌≢◌, Bool, true, false, cond, get_or, length, take}
use Rattle.std.proofs.Math.Option.{Option, none, some}
use mathlib.Core.List.{List, [], ◌∷◌, ◌++◌, map, Memᴰ}
use Rattle.theory_resolution.specs.Names.{Name, Parts, Above}
use Rattle.theory_resolution.specs.Table.{Urn, urn, Table}
use Rattle.theory_resolution.specs.Direct.{State}
use Rattle.theory_resolution.specs.Nodes.{nodes, is_node, number, RootOrNode, is_root, leaf, deepest}
use Rattle.theory_resolution.specs.Symbols.{Symbol, node, other, symbol_of, symbols, symbol_at, step_at}
use Rattle.theory_resolution.specs.Machine.{MachineState, Machine, machine_state, target, Accepted, walk_step, walk}
use Rattle.theory_resolution.specs.Discovery.{Reached}
use Rattle.theory_resolution.specs.Build.{machine_of}

-- the nodes: each signal's URNs with at least one part, with their ancestors that have one; nothing else
pub record NodesLaw (t : Table) : Type 1 where
  pub urns : (sig : List Urn) (u : Urn) → Memᴰ sig t.signals → Memᴰ u sig → u.path ≢ [] → is_node (nodes t) u.cat u.path ≡ true
  pub ancestors : (c : ℕ) (p r : Parts) → p ≢ [] → is_node (nodes t) c (p ++ r) ≡ true → is_node (nodes t) c p ≡ true
  pub no_other : (P : ℕ → Parts → Type 0) → ((sig : List Urn) (u : Urn) → Memᴰ sig t.signals → Memᴰ u sig → P u.cat u.path)
      → ((c : ℕ) (p r : Parts) → P c (p ++ r) → P c p) → (c : ℕ) (p : Parts) → is_node (nodes t) c p ≡ true → P c p

-- the nodes of n categories and these signals
abbrev pub nodes_of : ℕ → List (List Urn) → List Urn
nodes_of n sigs = nodes (record { cats = n; signals = sigs })

-- nodes are numbered by first appearance, ancestors first: what comes later, be it signals, URNs of a signal or parts of a
-- URN, leaves the nodes before it where they are
pub record AppearanceLaw (n : ℕ) (sigs : List (List Urn)) : Type 0 where
  pub later-signals : (more : List (List Urn)) → take (length (nodes_of n sigs)) (nodes_of n (sigs ++ more)) ≡ nodes_of n sigs
  pub later-urns : (us vs : List Urn)
      → take (length (nodes_of n (sigs ++ us ∷ []))) (nodes_of n (sigs ++ (us ++ vs) ∷ [])) ≡ nodes_of n (sigs ++ us ∷ [])
  pub later-parts : (us : List Urn) (c : ℕ) (p r : Parts)
      → take (length (nodes_of n (sigs ++ (us ++ urn c p ∷ []) ∷ []))) (nodes_of n (sigs ++ (us ++ urn c (p ++ r) ∷ []) ∷ []))
      ≡ nodes_of n (sigs ++ (us ++ urn c p ∷ []) ∷ [])

-- a leaf is a node with no node under it
pub record LeafLaw (ns : List Urn) (c : ℕ) : Type 0 where
  pub root : leaf ns c [] ≡ false
  pub ends : (p : Parts) → leaf ns c p ≡ true → (x : Name) (r : Parts) → is_node ns c (p ++ x ∷ r) ≡ false
  pub goes_on : (p : Parts) → p ≢ [] → leaf ns c p ≡ false → (x : Name) × (r : Parts) × (is_node ns c (p ++ x ∷ r) ≡ true)

-- the deepest node that is a path or above it, or the root
pub record DeepestLaw (ns : List Urn) (c : ℕ) (u : Parts) : Type 0 where
  pub a-node : RootOrNode ns c (deepest ns c u)
  pub above : Above (deepest ns c u) u
  pub most : (p : Parts) → RootOrNode ns c p → Above p u → Above p (deepest ns c u)

-- a URN that is a node has that node as its symbol; any other has the deepest node above it where this is a leaf, else Other under that
-- node or under the root
pub record SymbolOfLaw (ns : List Urn) (u : Urn) : Type 0 where
  pub own : is_node ns u.cat u.path ≡ true → symbol_of ns u ≡ node u.cat u.path
  pub under-leaf : leaf ns u.cat (deepest ns u.cat u.path) ≡ true → symbol_of ns u ≡ node u.cat (deepest ns u.cat u.path)
  pub under-other : deepest ns u.cat u.path ≢ u.path → leaf ns u.cat (deepest ns u.cat u.path) ≡ false
      → symbol_of ns u ≡ other u.cat (deepest ns u.cat u.path)

abbrev pub one : Bool → ℕ
one false = 0
one true = 1

-- where a symbol stands among those of its category: nodes by number, its Other right after each, and that of the category at the end
abbrev pub rank : List Urn → Symbol → ℕ
rank ns s = cond (is_root s.path) (2 * suc (length ns)) (2 * number ns s.cat s.path + one s.other)

-- symbol a comes before symbol b: by category, then by rank
abbrev pub Before : List Urn → Symbol → Symbol → Type 0
Before ns a b = (a.cat < b.cat) ⊎ ((a.cat ≡ b.cat) × (rank ns a < rank ns b))

-- a table's symbols: its nodes, Other under each that is no leaf and under each category's root, nothing else; each once, in order
pub record SymbolsLaw (t : Table) : Type 0 where
  pub all-nodes : (c : ℕ) (p : Parts) → c < t.cats → is_node (nodes t) c p ≡ true → Memᴰ (node c p) (symbols t)
  pub all_others : (c : ℕ) (p : Parts) → c < t.cats → is_node (nodes t) c p ≡ true → leaf (nodes t) c p ≡ false → Memᴰ (other c p) (symbols t)
  pub all-roots : (c : ℕ) → c < t.cats → Memᴰ (other c []) (symbols t)
  pub only : (s : Symbol) → Memᴰ s (symbols t) → (s.cat < t.cats)
      × (((is_node (nodes t) s.cat s.path ≡ true) × (s.other ≡ true → leaf (nodes t) s.cat s.path ≡ false)) ⊎ (s ≡ other s.cat []))
  pub in_order : (i j : ℕ) → i < j → j < length (symbols t) → Before (nodes t) (symbol_at t i) (symbol_at t j)

-- the states that are reached: the start and, with each, what every symbol leads to; nothing else
pub record ReachedLaw {S : Type 0} (next : S → ℕ → S) (count : ℕ) (begin : S) : Type 1 where
  pub start-reached : Reached next count begin begin
  pub next-reached : (s : S) (k : ℕ) → Reached next count begin s → k < count → Reached next count begin (next s k)
  pub no_other : (P : S → Type 0) → P begin → ((s : S) (k : ℕ) → P s → k < count → P (next s k)) → (s : S) → Reached next count begin s → P s

-- the machine of a list of states has these states in their order, and a target for each symbol
pub record MachineOfLaw (t : Table) (l : List State) : Type 0 where
  pub pairs : map (λ (e : MachineState). e.pair) (machine_of t l) ≡ l
  pub rows : (j : ℕ) → j < length l → length (machine_state (machine_of t l) j).row ≡ length (symbols t)

-- a right machine stays right in any other numbering, also with repeated pairs: state j of the other stands for state f j
-- of the first; and with one state more, whichever its pair, whose row is right
pub record AcceptedLaw (t : Table) (m : Machine) : Type 0 where
  pub renumbered : Accepted t m → (other : Machine) (f : ℕ → ℕ) → 0 < length other → f 0 ≡ 0
      → ((j : ℕ) → j < length other → (f j < length m) × ((machine_state other j).pair ≡ (machine_state m (f j)).pair))
      → ((j k : ℕ) → j < length other → k < length (symbols t) → (target other j k < length other) × (f (target other j k) ≡ target m (f j) k))
      → Accepted t other
  pub one_more : Accepted t m → (e : MachineState)
      → ((k : ℕ) → k < length (symbols t)
      → (get_or e.row k 0 < length (m ++ e ∷ [])) × ((machine_state (m ++ e ∷ []) (get_or e.row k 0)).pair ≡ step_at t e.pair k))
      → Accepted t (m ++ e ∷ [])

-- a walk obeys each used URI of the list, one after the other, from state 0 on
pub record WalkLaw (t : Table) (m : Machine) : Type 0 where
  pub at-start : walk t m [] ≡ 0
  pub used : (l : List (Option Urn)) (u : Urn) → walk t m (l ++ some u ∷ []) ≡ walk_step t m (walk t m l) u
  pub skipped : (l : List (Option Urn)) → walk t m (l ++ none ∷ []) ≡ walk t m l
