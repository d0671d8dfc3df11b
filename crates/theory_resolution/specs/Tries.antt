-- How many candidates the search for a signal tries.
use Rattle.std.specs.Prelude.{ℕ, suc, ◌+◌, ◌*◌, ◌≤◌, ◌<◌, ◌≡◌, Bool, true, false, length, get_or, set}
use Rattle.std.proofs.Math.Option.{Option, none, some}
use mathlib.Core.List.{List, [], ◌∷◌, Memᴰ}
use Rattle.theory_resolution.specs.Names.{Parts, same_parts, below, candidates, Above}
use Rattle.theory_resolution.specs.Table.{Urn, Table, Row, row_of, find}
use Rattle.theory_resolution.specs.Direct.{Open, State, Env, env_of, Hit, first_hit, takes_urn, step, StateOf}
use Rattle.theory_resolution.specs.Nodes.{nodes, deepest}
use Rattle.theory_resolution.specs.NodeStep.{node_takes}

-- one more try, and no other after one that found a signal
abbrev pub one_more : Option ℕ → ℕ → ℕ
one_more none n = suc n
one_more (some s) n = 1

-- the candidates tried: in order, the first that has a signal being the last
abbrev pub tries_of : Env → Row → ℕ → List Parts → ℕ
tries_of env row c [] = 0
tries_of env row c (p ∷ ps) = one_more (env.finder (set row c p)) (tries_of env row c ps)

-- if the URN is taken: those from its deepest node or root down to the place, by what is left of it after the place
abbrev pub tries_if_taken : Env → Row → ℕ → Parts → Bool → Option Parts → ℕ
tries_if_taken env row c place false rest = 0
tries_if_taken env row c place true none = 0
tries_if_taken env row c place true (some r) = tries_of env row c (candidates place r)

-- the tries of one URN: candidates deeper than its deepest node, or the root, are not looked up
abbrev pub tries : Env → List Urn → State → Urn → ℕ
tries env ns st u =
    tries_if_taken env (env.rows st.signal) u.cat (get_or (env.rows st.signal) u.cat [])
    (takes_urn (get_or st.status u.cat Open) (get_or (env.rows st.signal) u.cat []) u.path)
    (below (get_or (env.rows st.signal) u.cat []) (deepest ns u.cat u.path))

-- the same by a URN's deepest node or root d, and whether the URN is d whole
abbrev pub node_tries : Env → State → ℕ → Parts → Bool → ℕ
node_tries env st c d whole =
    tries_if_taken env (env.rows st.signal) c (get_or (env.rows st.signal) c [])
    (node_takes (get_or st.status c Open) (get_or (env.rows st.signal) c []) d whole)
    (below (get_or (env.rows st.signal) c []) d)

-- the tries of a list of used URNs, added up
abbrev pub tries_over : Table → State → List Urn → ℕ
tries_over t st [] = 0
tries_over t st (u ∷ us) = tries (env_of t) (nodes t) st u + tries_over t (step (env_of t) st u) us

-- a URN's category, in a state
abbrev pub place_at : Table → State → Urn → Parts
place_at t st u = get_or (row_of t st.signal) u.cat []

abbrev pub taken_at : Table → State → Urn → Bool
taken_at t st u = takes_urn (get_or st.status u.cat Open) (place_at t st u) u.path

abbrev pub deepest_of : Table → Urn → Parts
deepest_of t u = deepest (nodes t) u.cat u.path

-- the search for a taken URN
pub record Searched (t : Table) (st : State) (u : Urn) : Type 0 where
  -- what is left after the place, of the URN and of its deepest node
  pub rest : Parts
  pub left : below (place_at t st u) u.path ≡ some rest
  pub short : Parts
  pub down : below (place_at t st u) (deepest_of t u) ≡ some short
  -- what is deeper than the deepest node need not be looked up
  pub same : first_hit (env_of t) (row_of t st.signal) u.cat (candidates (place_at t st u) rest) ≡ first_hit (env_of t) (row_of t st.signal) u.cat (candidates (place_at t st u) short)
  -- a signal is found, and the tries are the candidates from the deepest node to where it is found, both counted
  pub hit : Hit
  pub found : first_hit (env_of t) (row_of t st.signal) u.cat (candidates (place_at t st u) rest) ≡ some hit
  pub counted : tries (env_of t) (nodes t) st u + length hit.at ≡ suc (length (deepest_of t u))

-- what holds of the tries of every well-formed table
pub record TriesLaw (t : Table) : Type 0 where
  -- a URN that is not taken costs nothing; one that is taken is searched for
  pub untaken : (st : State) (u : Urn) → taken_at t st u ≡ false → tries (env_of t) (nodes t) st u ≡ 0
  pub taken : (st : State) → StateOf t st → (u : Urn) → u.cat < t.cats → taken_at t st u ≡ true → Searched t st u
  -- a candidate deeper than the deepest node is never found
  pub beyond : (st : State) → StateOf t st → (u : Urn) → u.cat < t.cats → (p : Parts) → Above p u.path → length (deepest_of t u) < length p
      → find t (set (row_of t st.signal) u.cat p) ≡ none
  -- the tries are those at the deepest node
  pub at-node : (st : State) → StateOf t st → (u : Urn) → u.cat < t.cats
      → tries (env_of t) (nodes t) st u ≡ node_tries (env_of t) st u.cat (deepest_of t u) (same_parts (deepest_of t u) u.path)
  -- no URN costs more than one try over its deepest node's parts
  pub few : (st : State) (u : Urn) → tries (env_of t) (nodes t) st u ≤ suc (length (deepest_of t u))
  pub low : (k : ℕ) → ((sig : List Urn) → Memᴰ sig t.signals → (u : Urn) → Memᴰ u sig → length u.path ≤ k) → (n : Urn) → Memᴰ n (nodes t) → length n.path ≤ k
  pub bounded : (k : ℕ) → ((n : Urn) → Memᴰ n (nodes t) → length n.path ≤ k) → (st : State) (u : Urn) → tries (env_of t) (nodes t) st u ≤ suc k
  pub sum : (k : ℕ) → ((n : Urn) → Memᴰ n (nodes t) → length n.path ≤ k) → (st : State) (us : List Urn) → tries_over t st us ≤ length us * suc k
