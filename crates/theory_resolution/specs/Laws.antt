-- The laws, as types: what holds of every well-formed table, over all lists, the empty one too.
-- proofs/Theorems.antt proves each.
use Rattle.std.specs.Prelude.{ℕ, suc, ◌*◌, ◌≤◌, ◌<◌, ◌≡◌, true, false, not, get_or, length}
use Rattle.std.proofs.Math.Option.{Option, some}
use mathlib.Core.List.{List, [], ◌∷◌, ◌++◌, Memᴰ}
use Rattle.base_lists.specs.Lists.{Distinct}
use Rattle.theory_resolution.specs.Names.{Name, Parts, same_parts, candidates}
use Rattle.theory_resolution.specs.Table.{Urn, urn, Table, most_parts, row_of}
use Rattle.theory_resolution.specs.Direct.{State, start, env_of, Hit, first_hit, step, direct, StateOf, Used, AllUsed, changes, same_state}
use Rattle.theory_resolution.specs.Says.{Says, Given}
use Rattle.theory_resolution.specs.Nodes.{same_urn, nodes, is_node, number, node_at, RootOrNode, NodeOf, deepest}
use Rattle.theory_resolution.specs.NodeStep.{node_step}
use Rattle.theory_resolution.specs.Symbols.{Symbol, other, symbols, symbol_of, step_symbol, by_symbols, step_at}
use Rattle.theory_resolution.specs.Machine.{Machine, Accepted, accepts}
use Rattle.theory_resolution.specs.Discovery.{FirstMet, BreadthFirst}
use Rattle.theory_resolution.specs.Build.{discovered, Reachable, ReachableOver, machine_of}
use Rattle.theory_resolution.specs.Claim.{Claim}

-- direct resolution
pub record DirectLaw (t : Table) : Type 0 where
  -- the search always finds a signal, since the current one is the last candidate
  pub finds : (st : State) → StateOf t st → (c : ℕ) (r : Parts)
      → (h : Hit) × (first_hit (env_of t) (row_of t st.signal) c (candidates (get_or (row_of t st.signal) c []) r) ≡ some h)
  -- what the signal says is only given URNs or their ancestors
  pub only-given : (us : List Urn) (c : ℕ) (p : Parts) → Says t (direct t us).signal c p → Given us c p
  -- what it said it still says
  pub still-says : (us vs : List Urn) (c : ℕ) (p : Parts) → Says t (direct t us).signal c p → Says t (direct t (us ++ vs)).signal c p
  -- it changes at most as often as the largest number of parts that one signal names
  pub few-changes : (us : List Urn) → changes (λ st. st.signal) (step (env_of t)) (start t.cats) us ≤ most_parts t.signals

-- nodes and their numbers
pub record NumberLaw (t : Table) : Type 0 where
  -- the nodes are the paths, but for the root, that are some signal's URN or above it
  pub nodes-are : (c : ℕ) (p : Parts) → is_node (nodes t) c p ≡ true → NodeOf t c p
  pub all-nodes : (c : ℕ) (p : Parts) → NodeOf t c p → is_node (nodes t) c p ≡ true
  -- no node stands twice
  pub distinct : Distinct same_urn (nodes t)
  -- the node at index k has number k + 1, and the root has 0
  pub numbered : (k : ℕ) → k < length (nodes t) → number (nodes t) (node_at (nodes t) k).cat (node_at (nodes t) k).path ≡ suc k
  pub root-number : (c : ℕ) → number (nodes t) c [] ≡ 0
  -- in a category, number and path determine each other
  pub number_same : (c : ℕ) (p q : Parts) → RootOrNode (nodes t) c p → RootOrNode (nodes t) c q → number (nodes t) c p ≡ number (nodes t) c q → p ≡ q
  -- ancestors come before descendants
  pub ancestors-first : (c : ℕ) (p : Parts) (x : Name) (r : Parts) → is_node (nodes t) c (p ++ x ∷ r) ≡ true → number (nodes t) c p < number (nodes t) c (p ++ x ∷ r)
  -- where every category has a node, there are at most two symbols for each node
  pub few-symbols : ((c : ℕ) → c < t.cats → (p : Parts) × (is_node (nodes t) c p ≡ true)) → length (symbols t) ≤ 2 * length (nodes t)

-- the step at the deepest node is direct resolution's step, and a symbol's
pub record NodeStepLaw (t : Table) : Type 0 where
  pub starts : StateOf t (start t.cats)
  pub stays : (st : State) (u : Urn) → StateOf t st → StateOf t (step (env_of t) st u)
  pub direct-step : (st : State) → StateOf t st → (u : Urn) → u.cat < t.cats
      → step (env_of t) st u ≡ node_step (env_of t) st u.cat (deepest (nodes t) u.cat u.path) (same_parts (deepest (nodes t) u.cat u.path) u.path)
  pub symbol-step : (st : State) → StateOf t st → (s : Symbol) → s.cat < t.cats
      → step_symbol t st s ≡ node_step (env_of t) st s.cat s.path (not s.other)
  -- Other under a path steps as that path does with a further part, whichever: any that no node has there
  pub other_step : (st : State) → StateOf t st → (c : ℕ) → c < t.cats → (p : Parts) (x : Name) → is_node (nodes t) c (p ++ x ∷ []) ≡ false
      → step (env_of t) st (urn c (p ++ x ∷ [])) ≡ step_symbol t st (other c p)

-- symbols
pub record SymbolLaw (t : Table) : Type 0 where
  -- each is a node or the root of a category of the table
  pub known : (s : Symbol) → Memᴰ s (symbols t) → (s.cat < t.cats) × RootOrNode (nodes t) s.cat s.path
  -- a used URN's symbol is one of the table's
  pub listed : (u : Urn) → Used t u → Memᴰ (symbol_of (nodes t) u) (symbols t)
  -- folding symbols gives direct resolution's signal after every list
  pub agrees : (us : List Urn) → ((u : Urn) → Memᴰ u us → Used t u) → (by_symbols t us).signal ≡ (direct t us).signal

-- machines, with any numbering, repeated pairs and states that nothing reaches
pub record MachineLaw (t : Table) (m : Machine) : Type 0 where
  -- the test accepts exactly the right ones
  pub accepts-right : accepts t m ≡ true → Accepted t m
  pub right-accepted : Accepted t m → accepts t m ≡ true
  -- and of these the claim holds at every point of every list
  pub walks : Accepted t m → (before after : List (Option Urn)) → AllUsed t (before ++ after) → Claim t m before after

-- the states discovered in n turns, and their machine
pub record BuildLaw (t : Table) (n : ℕ) : Type 0 where
  -- the start has number 0
  pub begins : get_or (discovered t n) 0 (start t.cats) ≡ start t.cats
  -- every other has the number that breadth-first discovery gives it, symbols in order
  pub numbered : (j : ℕ) → 0 < j → j < length (discovered t n) → FirstMet (step_at t) (length (symbols t)) (start t.cats) same_state (discovered t n) j
  -- each state is one that some symbol sequence reaches, and none stands twice
  pub reachable : (st : State) → Memᴰ st (discovered t n) → Reachable t st
  pub distinct : (i j : ℕ) → i < length (discovered t n) → j < length (discovered t n)
      → get_or (discovered t n) i (start t.cats) ≡ get_or (discovered t n) j (start t.cats) → i ≡ j
  -- there are more than n exactly if over n states are reachable
  pub over : n < length (discovered t n) → ReachableOver t n
  pub found-over : ReachableOver t n → n < length (discovered t n)
  -- otherwise every reachable state is there, and their machine is right
  pub complete : length (discovered t n) ≤ n → (st : State) → Reachable t st → Memᴰ st (discovered t n)
  pub accepted : length (discovered t n) ≤ n → Accepted t (machine_of t (discovered t n))
  -- and no other list of all reachable states is numbered breadth first, with none twice
  pub only : length (discovered t n) ≤ n → (l : List State) → BreadthFirst (step_at t) (length (symbols t)) (start t.cats) same_state l → l ≡ discovered t n
