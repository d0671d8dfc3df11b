-- States from which no further URN leads to another signal, and the fewest URIs that are needed to come to one.
use Rattle.std.specs.Prelude.{ℕ, suc, ◌≤◌, ◌<◌, ◌≡◌, ◌⊎◌, Bool, true, false, cond, eqb, length, take}
use Rattle.std.proofs.Math.Option.{Option}
use mathlib.Core.List.{List, [], ◌∷◌, ◌++◌, foldl, Memᴰ}
use Rattle.base_lists.specs.Lists.{all_below}
use Rattle.theory_resolution.specs.Table.{Urn, Table}
use Rattle.theory_resolution.specs.Direct.{State, start, step, env_of, direct, used_of, step_uri, StateOf, Used, AllUsed}
use Rattle.theory_resolution.specs.Symbols.{symbols, by_symbols, step_at}

-- no sequence of the table's symbols, of any length, leads to a state with another signal
abbrev pub Settled : Table → State → Type 0
Settled t st = (ks : List ℕ) → ((k : ℕ) → Memᴰ k ks → k < length (symbols t)) → (foldl (step_at t) st ks).signal ≡ st.signal

-- symbol k keeps the signal
abbrev pub keeps_signal : Table → State → ℕ → Bool
keeps_signal t st k = eqb (step_at t st k).signal st.signal

-- no single symbol leads to another signal
abbrev pub is_settled : Table → State → Bool
is_settled t st = all_below (length (symbols t)) (keeps_signal t st)

-- how many URIs of the list are needed from a state on: those until the first settled state, or all of them
abbrev pub needed_from : Table → State → List (Option Urn) → ℕ
needed_from t st [] = 0
needed_from t st (u ∷ l) = cond (is_settled t st) 0 (suc (needed_from t (step_uri (step (env_of t)) st u) l))

-- how many are needed from the start on
abbrev pub needed : Table → List (Option Urn) → ℕ
needed t l = needed_from t (start t.cats) l

-- the state after the first k URIs of the list
abbrev pub after_first : Table → List (Option Urn) → ℕ → State
after_first t l k = direct t (used_of (take k l))

-- the early answer, over any list, also the empty one
pub record EarlyLaw (t : Table) : Type 0 where
  -- symbols can lead to another signal exactly if a single one can
  pub settled-to : (st : State) → StateOf t st → is_settled t st ≡ true → Settled t st
  pub settled-of : (st : State) → Settled t st → is_settled t st ≡ true
  -- or where no single used URN does
  pub by-urns : (st : State) → ((u : Urn) → Used t u → (step (env_of t) st u).signal ≡ st.signal) → is_settled t st ≡ true
  -- it does not matter whether URNs or their symbols led to the state
  pub by-symbols : (us : List Urn) → ((u : Urn) → Memᴰ u us → Used t u) → is_settled t (by_symbols t us) ≡ is_settled t (direct t us)
  -- from a settled state the signal is the same after every list of URIs
  pub stays : (st : State) → StateOf t st → Settled t st → (l : List (Option Urn)) → AllUsed t l → (foldl (step_uri (step (env_of t))) st l).signal ≡ st.signal
  -- the signal after the URIs that are needed is the signal after the whole list
  pub early : (l : List (Option Urn)) → AllUsed t l → (after_first t l (needed t l)).signal ≡ (direct t (used_of l)).signal
  -- they are enough, unless the list ends first, and they are the fewest: at every earlier point the state was not settled
  pub within : (l : List (Option Urn)) → needed t l ≤ length l
  pub enough : (l : List (Option Urn)) → needed t l < length l → Settled t (after_first t l (needed t l))
  pub fewest : (l : List (Option Urn)) (k : ℕ) → k < needed t l → Settled t (after_first t l k) → ⊥
  -- so the first point at which the state is settled or the list ends is their number
  pub is-needed : (l : List (Option Urn)) (k : ℕ) → k ≤ length l → ((j : ℕ) → j < k → is_settled t (after_first t l j) ≡ false)
      → (is_settled t (after_first t l k) ≡ true) ⊎ (k ≡ length l) → needed t l ≡ k
  -- what follows a settled state does not matter
  pub ahead : (l after : List (Option Urn)) → Settled t (direct t (used_of l)) → needed t (l ++ after) ≡ needed t l
