-- Laws of machines: the test tells exactly whether a machine is right, and a right machine's walk has direct
-- resolution's signal.
use Prim.Native.Nat.{ℕ, ◌<◌}
use mathlib.Core.Path.{◌≡◌, refl, sym, ap, ◌∙◌}
use mathlib.Core.Bool.{true, ◌&&◌, and-eq-true_iff}
use mathlib.Core.List.{List, [], ◌∷◌, foldl, Memᴰ}
use lib.Dec.{ltb}
use borrow.Author.Tests.{ltb-true, lt-ltb}
use lib.ListN.{length}
use Rattle.base_lists.proofs.Below.{all-to, all_of}
use Rattle.base_lists.specs.Lists.{all_below}
use Rattle.theory_resolution.specs.Table.{Urn, Table, WellFormed}
use Rattle.theory_resolution.specs.Direct.{State, start, direct, Used, same_state}
use Rattle.theory_resolution.specs.Nodes.{nodes}
use Rattle.theory_resolution.specs.Symbols.{symbols, symbol_of, symbol_index, step_symbol, step_at}
use Rattle.theory_resolution.specs.Machine.{Machine, machine_state, target, Accepted, target_right, row_right, accepts, walk_step, signal_at}
use Rattle.theory_resolution.proofs.Direct.{state-exact}
use Rattle.theory_resolution.proofs.Symbols.{symbol-at-index, same-signals}

module _ (t : Table) (m : Machine) where
  -- a machine that the test accepts is right
  pub accepts-to : accepts t m ≡ true → Accepted t m
  accepts-to e =
      record {
        some-state = ltb-true 0 (length m) a.0;
        begins = state-exact.to (machine_state m 0).pair (start t.cats) b.0;
        leads = λ j k h i. ltb-true (target m j k) (length m) (at j k h i).0;
        right = λ j k h i. state-exact.to (machine_state m (target m j k)).pair (step_at t (machine_state m j).pair k) (at j k h i).1;
      }
    where
      a : (ltb 0 (length m) ≡ true) × (same_state (machine_state m 0).pair (start t.cats) && all_below (length m) (row_right t m) ≡ true)
      a = (and-eq-true_iff (ltb 0 (length m)) (same_state (machine_state m 0).pair (start t.cats) && all_below (length m) (row_right t m))).0 e

      b : (same_state (machine_state m 0).pair (start t.cats) ≡ true) × (all_below (length m) (row_right t m) ≡ true)
      b = (and-eq-true_iff (same_state (machine_state m 0).pair (start t.cats)) (all_below (length m) (row_right t m))).0 a.1

      at : (j k : ℕ) → j < length m → k < length (symbols t)
          → (ltb (target m j k) (length m) ≡ true) × (same_state (machine_state m (target m j k)).pair (step_at t (machine_state m j).pair k) ≡ true)
      at j k h i =
          (and-eq-true_iff (ltb (target m j k) (length m)) (same_state (machine_state m (target m j k)).pair (step_at t (machine_state m j).pair k))).0
          (all-to (length (symbols t)) (target_right t m j) (all-to (length m) (row_right t m) b.1 j h) k i)

  -- and a right machine passes it
  pub accepts-of : Accepted t m → accepts t m ≡ true
  accepts-of a =
      rw (lt-ltb 0 (length m) a.some-state, a.begins, state-exact.self (start t.cats))
      (all_of (length m) (row_right t m) (λ j h. all_of (length (symbols t)) (target_right t m j) (λ k i. at j k h i)))
    where
      at : (j k : ℕ) → j < length m → k < length (symbols t) → target_right t m j k ≡ true
      at j k h i =
          rw (lt-ltb (target m j k) (length m) (a.leads j k h i), a.right j k h i)
          (state-exact.self (step_at t (machine_state m j).pair k))

module _ (t : Table) (wf : WellFormed t) (m : Machine) (ok : Accepted t m) where
  -- the walk's state has the pair that the symbols lead to
  walk_pair : (us : List Urn) → ((u : Urn) → Memᴰ u us → Used t u) → (j : ℕ) (st : State) → j < length m → (machine_state m j).pair ≡ st
      → (machine_state m (foldl (walk_step t m) j us)).pair ≡ foldl (λ x u. step_symbol t x (symbol_of (nodes t) u)) st us
  walk_pair [] used j st h e = e
  walk_pair (u ∷ us) used j st h e =
      let k = symbol-at-index t u (used u (Memᴰ.head refl)) in
      walk_pair us (λ x i. used x (Memᴰ.tail i)) (walk_step t m j u) (step_symbol t st (symbol_of (nodes t) u))
      (ok.leads j (symbol_index (symbol_of (nodes t) u) (symbols t)) h k.0)
      (ok.right j (symbol_index (symbol_of (nodes t) u) (symbols t)) h k.0 ∙ rw (e, k.1))

  -- an accepted machine's walk has direct resolution's signal, after every list
  pub walk-right : (us : List Urn) → ((u : Urn) → Memᴰ u us → Used t u) → signal_at m (foldl (walk_step t m) 0 us) ≡ (direct t us).signal
  walk-right us used =
      ap (λ x. x.signal) (walk_pair us used 0 (start t.cats) ok.some-state ok.begins)
      ∙ sym (same-signals t wf us (λ u i. (used u i).known))
