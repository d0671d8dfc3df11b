-- What the plain resolver's answer can be: a number 1 to 12, or a signal of a well-formed table.
use mathlib.Core.Path.{◌≡◌, refl}
use mathlib.Core.Logic.{inl, inr}
use Prim.Native.Nat.{ℕ, ◌≤◌, ◌<◌}
use native.Mathlib.Omega.{arith}
use mathlib.Core.Bool.{Bool, true, false, cond}
use mathlib.Core.List.{List, [], ◌∷◌, foldl}
use lib.Dec.{eqb}
use lib.ListN.{length}
use borrow.Author.Tests.{eqb-true, eqb-false}
use Rattle.value_reader.specs.Value.{refusal_of, uris_of}
use Rattle.theory_resolution.specs.Table.{Urn, Table, WellFormed}
use Rattle.theory_resolution.specs.Direct.{State, start, step, env_of, StateOf, direct, used_of}
use Rattle.theory_resolution.proofs.TableStep.{state-start, state-step, state-signal}
use Rattle.table_decode.specs.Tables.{table_refusal, table_of, RefusalNumber}
use Rattle.table_decode.proofs.Accepting as stored
use Rattle.resolve_run.specs.declared.Resolution.{Resolution}
use Rattle.resolve_library.specs.Resolve.{taken_as, direct_signal, refused, answered, plain_of}
use Rattle.value_reader.proofs.Agree.{refusal-numbers as value-numbers}
use Rattle.table_decode.proofs.RefusalNumbers.{refusal-numbers as table-numbers}

-- direct resolution is always at a signal of the table
state-after : (T : Table) → WellFormed T → (us : List Urn) (st : State) → StateOf T st → StateOf T (foldl (step (env_of T)) st us)
state-after T w [] st g = g
state-after T w (u ∷ us) st g = state-after T w us (step (env_of T) st u) (state-step T w st u g)

signal-below : (T : Table) → WellFormed T → (us : List Urn) → (direct T us).signal < length T.signals
signal-below T w us = state-signal T (direct T us) (state-after T w us (start T.cats) (state-start T w))

-- an accepted value: the table is well-formed, and the signal one of its
pub record Accepted (t v : List ℕ) : Type 0 where
  pub formed : table_refusal t ≡ 0
  pub listed : (plain_of t v).signal < length (table_of t).signals

pub plain-accepted : (t v : List ℕ) → (plain_of t v).refusal ≡ 0 → Accepted t v
unfolding plain_of
plain-accepted t v = λ e. record { formed = (both e).0; listed = (both e).1 }
  where
    Claim : Resolution → Type 0
    Claim r = r.refusal ≡ 0 → (table_refusal t ≡ 0) × (r.signal < length (table_of t).signals)

    table : (b : Bool) → eqb (table_refusal t) 0 ≡ b → Claim (cond b (answered t (uris_of v) (direct_signal t (uris_of v))) (refused (table_refusal t)))
    table true q e = let z = eqb-true (table_refusal t) 0 q in (z, signal-below (table_of t) (stored.accepted t z).well (used_of (taken_as t (uris_of v))))
    table false q e = absurd (eqb-false (table_refusal t) 0 q e)

    value : (b : Bool) → eqb (refusal_of v) 0 ≡ b
        → Claim (cond b (cond (eqb (table_refusal t) 0) (answered t (uris_of v) (direct_signal t (uris_of v))) (refused (table_refusal t))) (refused (refusal_of v)))
    value true q = table (eqb (table_refusal t) 0) refl
    value false q = λ e. absurd (eqb-false (refusal_of v) 0 q e)

    both : Claim (plain_of t v)
    both = value (eqb (refusal_of v) 0) refl

-- the number of a refused one
pub plain-few : (t v : List ℕ) → (plain_of t v).refusal ≤ 12
unfolding plain_of
plain-few t v = value (eqb (refusal_of v) 0)
  where
    numbered : RefusalNumber (table_refusal t) → table_refusal t ≤ 12
    numbered (inl e) = omega (arith, e)
    numbered (inr h) = h.1

    table : (b : Bool) → (cond b (answered t (uris_of v) (direct_signal t (uris_of v))) (refused (table_refusal t))).refusal ≤ 12
    table true = omega arith
    table false = numbered (table-numbers t)

    value : (b : Bool)
        → (cond b (cond (eqb (table_refusal t) 0) (answered t (uris_of v) (direct_signal t (uris_of v))) (refused (table_refusal t)))
        (refused (refusal_of v))).refusal ≤ 12
    value true = table (eqb (table_refusal t) 0)
    value false = omega (arith, value-numbers v)
