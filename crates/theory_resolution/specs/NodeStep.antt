-- The step at a node: a URN matters to a table only through its category c, the deepest node or root d that is the URN
-- or above it, and whether the URN is d whole. Direct resolution's step and a symbol's step are both this one.
use Rattle.std.specs.Prelude.{ℕ, Bool, true, false, not, ◌&&◌, [], ◌∷◌, get_or, set}
use Rattle.std.proofs.Math.Option.{Option, none, some}
use Rattle.theory_resolution.specs.Names.{Parts, same_parts, below, candidates}
use Rattle.theory_resolution.specs.Direct.{Status, Open, Held, Shut, State, Env, Hit, first_hit, held_if, open_or}

-- the URN has parts below a path: by what is left of d after the path
abbrev pub node_under : Option Parts → Bool → Bool
node_under none whole = false
node_under (some []) whole = not whole
node_under (some (x ∷ r)) whole = true

-- a category with this status and place q takes the URN
abbrev pub node_takes : Status → Parts → Parts → Bool → Bool
node_takes Open q d whole = node_under (below q d) whole
node_takes (Held w) q d whole = node_under (below w d) whole
node_takes Shut q d whole = false

-- the signal found becomes current; its category is open if the URN is d whole and was found at d, else held at d if
-- the URN is d whole and has nodes under it, else shut
abbrev pub node_move : Env → State → ℕ → Parts → Bool → Option Hit → State
node_move env st c d whole none = st
node_move env st c d whole (some h) =
    record {
      signal = h.signal;
      status = set st.status c (open_or (whole && same_parts h.at d) (held_if (whole && env.inner c d) d));
    }

-- if the URN is taken: the longest candidate between the place and d
abbrev pub node_if_taken : Env → State → ℕ → Parts → Bool → Bool → Option Parts → State
node_if_taken env st c d whole false rest = st
node_if_taken env st c d whole true none = st
node_if_taken env st c d whole true (some r) = node_move env st c d whole (first_hit env (env.rows st.signal) c (candidates (get_or (env.rows st.signal) c []) r))

-- the state after a URN of category c whose deepest node or root is d, and which is d whole or not
unfoldable pub node_step : Env → State → ℕ → Parts → Bool → State
node_step env st c d whole =
    node_if_taken env st c d whole
    (node_takes (get_or st.status c Open) (get_or (env.rows st.signal) c []) d whole)
    (below (get_or (env.rows st.signal) c []) d)
