-- A table's rows, search and nodes have the laws that the steps ask for.
use Prim.Native.Nat.{ℕ, ◌<◌}
use mathlib.Core.Path.{◌≡◌, refl}
use mathlib.Core.Bool.{true}
use mathlib.Core.List.{List, [], ◌∷◌, foldl}
use lib.ListN.{length, get_or, length-replicate, get_or-replicate}
use native.Mathlib.Omega.{arith}
use Rattle.theory_resolution.specs.Table.{Urn, Table, row_of, WellFormed}
use Rattle.theory_resolution.specs.Direct.{Open, State, start, step, env_of, direct, status_fits, StateOf}
use Rattle.theory_resolution.specs.Nodes.{nodes}
use Rattle.theory_resolution.proofs.Table.{find-sound, find-start, find-below, find-self, row-length}
use Rattle.theory_resolution.proofs.Nodes.{noded, fresh-node}
use Rattle.theory_resolution.proofs.Step.{EnvLaws, Valid, valid-step}

module _ (t : Table) (wf : WellFormed t) where
  pub table-laws : EnvLaws (env_of t) t.cats (nodes t)
  table-laws = record { sound = find-sound t; noded = noded t; inners = λ c p. refl; fresh-node = fresh-node t wf }

  pub valid-start : Valid (env_of t) t.cats (nodes t) (start t.cats)
  valid-start =
      record {
        live = find-start t wf.some-signal;
        wide = row-length (get_or t.signals 0 []) 0 t.cats;
        sized = length-replicate t.cats Open;
        fits = λ c h. rw (get_or-replicate t.cats c Open Open h);
      }

module _ (t : Table) where
  pub state-valid : (st : State) → StateOf t st → Valid (env_of t) t.cats (nodes t) st
  state-valid st g = record { live = g.live; wide = row-length (get_or t.signals st.signal []) 0 t.cats; sized = g.sized; fits = g.fits }

  pub valid-state : (st : State) → Valid (env_of t) t.cats (nodes t) st → StateOf t st
  valid-state st g = record { live = g.live; sized = g.sized; fits = g.fits }

  pub state-start : WellFormed t → StateOf t (start t.cats)
  state-start wf = valid-state (start t.cats) (valid-start t wf)

  pub state-step : WellFormed t → (st : State) (u : Urn) → StateOf t st → StateOf t (step (env_of t) st u)
  state-step wf st u g = valid-state (step (env_of t) st u) (valid-step (env_of t) t.cats (nodes t) (table-laws t wf) st u (state-valid st g))

  -- and so does direct resolution over a list
  pub state-run : WellFormed t → (st : State) (us : List Urn) → StateOf t st → StateOf t (foldl (step (env_of t)) st us)
  state-run wf st [] g = g
  state-run wf st (u ∷ us) g = state-run wf (step (env_of t) st u) us (state-step wf st u g)

  pub state-direct : WellFormed t → (us : List Urn) → StateOf t (direct t us)
  state-direct wf us = state-run wf (start t.cats) us (state-start wf)

  -- where no two signals have the same places, every signal with a status for each category that it can have is a state
  -- of the table
  pub state-of : ((i j : ℕ) → i < length t.signals → j < length t.signals → row_of t i ≡ row_of t j → i ≡ j)
      → (st : State) → st.signal < length t.signals → length st.status ≡ t.cats
      → ((c : ℕ) → c < t.cats → status_fits (nodes t) c (get_or (row_of t st.signal) c []) (get_or st.status c Open) ≡ true) → StateOf t st
  state-of rows st h e f = record { live = find-self t rows st.signal h; sized = e; fits = f }

  pub state-signal : (st : State) → StateOf t st → st.signal < length t.signals
  state-signal st g = omega (arith, find-below t.cats 0 t.signals (row_of t st.signal) st.signal g.live)
