-- One table as an example: the bound on changes is reached, and signals are not available.
use Rattle.std.specs.Prelude.{ℕ, ◌≡◌, Bool, false, not, List, [], ◌∷◌, map, eqb}
use Prim.Native.String.{String}
use Rattle.std.proofs.Math.Option.{some}
use Rattle.base_ascii.specs.Ascii.{bytes}
use Rattle.theory_resolution.specs.Table.{Urn, urn, Table, most_parts}
use Rattle.theory_resolution.specs.Direct.{start, env_of, step, step_uri, changes}
use Rattle.theory_resolution.specs.Machine.{Machine, walk_step, signal_at}
use Rattle.theory_resolution.specs.Build.{discovered, machine_of}
use Rattle.theory_resolution.specs.Available.{direct_available}

-- the URN of category source with these parts
abbrev source : List String → Urn
source l = urn 0 (map bytes l)

-- default, internal, internal:vip@example, external
abbrev pub T4 : Table
T4 =
    record {
      cats = 1;
      signals = [] ∷ (source ("internal" ∷ []) ∷ []) ∷ (source ("internal" ∷ "vip@example" ∷ []) ∷ []) ∷ (source ("external" ∷ []) ∷ []) ∷ [];
    }

-- internal, then internal:vip@example
abbrev pub given : List Urn
given = source ("internal" ∷ []) ∷ source ("internal" ∷ "vip@example" ∷ []) ∷ []

-- the machine of T4
abbrev pub M4 : Machine
M4 = machine_of T4 (discovered T4 6)

-- over these the signal changes as often as T4's signal with the most parts has parts, in direct resolution and in the walk
pub record BoundReached : Type 0 where
  pub most : most_parts T4.signals ≡ 2
  pub direct-changes : changes (λ st. st.signal) (step (env_of T4)) (start 1) given ≡ 2
  pub walk-changes : changes (signal_at M4) (step_uri (walk_step T4 M4)) 0 (map some given) ≡ 2

-- all signals but one, and none
abbrev pub all_but : ℕ → ℕ → Bool
all_but k s = not (eqb s k)

abbrev pub none_of : ℕ → Bool
none_of s = false

-- T4 while signals are not available
pub record NotAvailable : Type 0 where
  -- without signal 1, internal is still a node with nodes under it: it is held, and what extends it is found
  pub dark : (direct_available T4 (all_but 1) (source ("internal" ∷ []) ∷ [])).signal ≡ 0
  pub held : (direct_available T4 (all_but 1) given).signal ≡ 2
  -- without signal 2 the signal above it is found
  pub above : (direct_available T4 (all_but 2) (source ("internal" ∷ "vip@example" ∷ []) ∷ [])).signal ≡ 1
  -- signal 0 is always there
  pub silent : (direct_available T4 none_of given).signal ≡ 0
