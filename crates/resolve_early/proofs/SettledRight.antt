-- The test of a state on node numbers is the theory's: whatever symbols follow, the signal stays.
use Prim.Native.Nat.{ℕ, ◌+◌, ◌-◌, ◌≤◌, ◌<◌, min}
use mathlib.Core.Path.{◌≡◌, refl, sym, ap, ap₂, ◌∙◌}
use mathlib.Core.Logic.{inr}
use mathlib.Core.Bool.{Bool, true, false, cond, not, ◌&&◌, and-eq-true_iff}
use mathlib.Core.List.{List, [], ◌∷◌, ◌++◌}
use lib.Dec.{eqb, leb}
use lib.ListN.{length, get_or, set}
use lib.Seq.{get_or-set_same}
use native.Mathlib.Omega.{arith}
use native.Mathlib.Nat.{zero-add}
use borrow.Author.Tests.{eqb-true, eq-eqb, ne_eqb, le-leb, lt-leb}
use Rattle.base_numbers.specs.Numbers.{most_signals}
use Rattle.base_lists.proofs.Numbers.{min-le}
use Rattle.base_lists.proofs.Below.{all-to, all_of}
use Rattle.base_lists.proofs.Bools.{same_test}
use Rattle.base_lists.specs.Lists.{all_below}
use Rattle.theory_resolution.specs.Names.{Parts, proper_ancestor}
use Rattle.theory_resolution.specs.Table.{urn, Table, Row, row_of, WellFormed}
use Rattle.theory_resolution.specs.Nodes.{nodes, number, is_node, RootOrNode, is_inner}
use Rattle.theory_resolution.specs.Direct.{State, env_of, step, status_fits, StateOf}
use Rattle.theory_resolution.specs.Direct as direct
use Rattle.theory_resolution.specs.Symbols.{steps_as_path}
use Rattle.theory_resolution.specs.Settled.{is_settled}
use Rattle.theory_resolution.proofs.Table.{row-length}
use Rattle.theory_resolution.proofs.Nodes.{row-nodes}
use Rattle.theory_resolution.proofs.Numbers.{number-node}
use Rattle.theory_resolution.proofs.Deepest.{inner-node}
use Rattle.theory_resolution.proofs.TableStep.{state-valid, state-signal}
use Rattle.node_step.specs.Step.{coded_status, coded, digit, put, row_at, step_numbers}
use Rattle.node_search.specs.Arrays.{InnerIn}
use Rattle.node_step.specs.Rows.{pack, numbers_from, Numbers}
use Rattle.node_step.specs.StatusByte.{byte_of, packed_of, step_packed}
use Rattle.node_step.specs.declared.Status.TheVariants.{Held}
use Rattle.node_step.specs.declared.State as code
use Rattle.node_step.specs.declared.stored.Packed.{Packed}
use Rattle.node_step.proofs.PackedLaws.{pack-digit, pack-set}
use Rattle.node_step.proofs.NumberLaws.{numbers-length, numbers-at, numbers-set, numbers-bytes}
use Rattle.node_step.proofs.ByteLaws.{byte-held, packed-digit}
use Rattle.node_step.proofs.StepLaws.{row_in}
use Rattle.node_step.proofs.Both.{step-symbol, coded-at, of-packed}
use Rattle.resolve_early.specs.SettledBy.{keeps_at, beside, beside_keeps, signal_keeps, held_keeps, category_keeps, settled_by}
use Rattle.resolve_early.proofs.Moves.{Quiet, quiet-settled, settled-keeps}

module _ (rows ps : List ℕ) (inner : List Bool) (n : ℕ) (t : Table) (wf : WellFormed t) (nu : Numbers rows ps n t) (ii : InnerIn inner t)
    (st : State) (g : StateOf t st) where
  -- the state as the code has it
  abbrev now : Packed
  now = packed_of (coded t st)

  abbrev row : Row
  row = row_of t st.signal

  abbrev no : ℕ → Parts → ℕ
  no c p = number (nodes t) c p

  abbrev status : ℕ → direct.Status
  status c = get_or st.status c direct.Open

  -- a step of the code, by its signal
  signal-after : (c : ℕ) → c < t.cats → (d : Parts) → RootOrNode (nodes t) c d → (other : Bool)
      → (step_packed rows ps inner n now c (no c d) (not other)).signal ≡ (step (env_of t) st (urn c (steps_as_path other d))).signal
  unfolding step_packed
  signal-after c h d a other =
      ap (λ (z : code.State). (step_numbers rows ps inner n z c (no c d) (not other)).signal) (of-packed t nu.few-cats nu.few-nodes st g)
      ∙ ap (λ (z : code.State). z.signal) (step-symbol rows ps inner n t wf nu ii st (state-valid t st g) (record { cat = c; path = d; other = other }) h a)

  keeps-to : (c : ℕ) → c < t.cats → (d : Parts) → RootOrNode (nodes t) c d → (other : Bool) {k : ℕ} → k ≡ no c d
      → keeps_at rows ps inner n now c k (not other) ≡ true → (step (env_of t) st (urn c (steps_as_path other d))).signal ≡ st.signal
  unfolding keeps_at
  keeps-to c h d a other {k} i e =
      sym (signal-after c h d a other) ∙ ap (λ z. (step_packed rows ps inner n now c z (not other)).signal) (sym i)
      ∙ eqb-true (step_packed rows ps inner n now c k (not other)).signal st.signal e

  keeps-of : (c : ℕ) → c < t.cats → (d : Parts) → RootOrNode (nodes t) c d → (other : Bool) {k : ℕ} → k ≡ no c d
      → (step (env_of t) st (urn c (steps_as_path other d))).signal ≡ st.signal → keeps_at rows ps inner n now c k (not other) ≡ true
  unfolding keeps_at
  keeps-of c h d a other {k} i e =
      eq-eqb (step_packed rows ps inner n now c k (not other)).signal st.signal
      (ap (λ z. (step_packed rows ps inner n now c z (not other)).signal) i ∙ signal-after c h d a other ∙ e)

  -- places as numbers
  low : st.signal < length t.signals
  low = state-signal t st g

  row_is : (s : ℕ) → s < length t.signals → get_or rows s 0 ≡ pack (numbers_from (nodes t) 0 (row_of t s))
  row_is s h = nu.packed s (omega (arith, nu.all-signals))

  row_now : row_at rows st.signal ≡ pack (numbers_from (nodes t) 0 row)
  row_now = sym (row_in rows st.signal (omega (arith, low, nu.all-signals, nu.few-signals))) ∙ row_is st.signal low

  wide : (s c : ℕ) → c < t.cats → c < length (row_of t s)
  wide s c h = omega (arith, row-length (get_or t.signals s []) 0 t.cats)

  digit-is : (s c : ℕ) → s < length t.signals → c < t.cats → digit (get_or rows s 0) c ≡ no c (get_or (row_of t s) c [])
  digit-is s c l h =
      ap (λ z. digit z c) (row_is s l)
      ∙ pack-digit (numbers_from (nodes t) 0 (row_of t s)) c (numbers-bytes (nodes t) nu.few-nodes 0 (row_of t s))
      ∙ numbers-at (nodes t) 0 (row_of t s) c (wide s c h) ∙ ap (λ z. no z (get_or (row_of t s) c [])) (zero-add c)

  -- a signal that differs in category c only is seen to be beside
  is-beside : (s c : ℕ) (p : Parts) → s < length t.signals → c < t.cats → row_of t s ≡ set row c p
      → beside (row_at rows st.signal) (get_or rows s 0) c ≡ true
  unfolding beside
  is-beside s c p l h e =
      let nums = numbers_from (nodes t) 0 row in
      let at : digit (get_or rows s 0) c ≡ no c p = digit-is s c l h ∙ ap (no c) (ap (λ z. get_or z c []) e ∙ get_or-set_same row c p [] (wide st.signal c h)) in
      eq-eqb (put (row_at rows st.signal) c (digit (get_or rows s 0) c)) (get_or rows s 0)
      (ap₂ (λ x y. put x c y) row_now at
      ∙ pack-set nums c (no c p) (numbers-bytes (nodes t) nu.few-nodes 0 row) (omega (arith, numbers-length (nodes t) 0 row, wide st.signal c h))
      ∙ ap pack (ap (λ z. set nums c (no z p)) (sym (zero-add c)) ∙ sym (numbers-set (nodes t) 0 row c p)
      ∙ ap (numbers_from (nodes t) 0) (sym e)) ∙ sym (row_is s l))

  -- the status byte
  byte-is : (c : ℕ) → c < t.cats → digit now.statuses c ≡ byte_of (coded_status (nodes t) c (status c))
  byte-is c h =
      let k : c < 8 = omega (arith, nu.few-cats) in
      packed-digit (coded t st).categories c k ∙ ap byte_of (coded-at t st c k)

  held-node : (c : ℕ) → c < t.cats → (w : Parts) → status c ≡ direct.Held w → is_node (nodes t) c w ≡ true
  held-node c h w e =
      inner-node (nodes t) c w
      ((and-eq-true_iff (proper_ancestor (get_or row c []) w) (is_inner (nodes t) c w)).0 (ap (status_fits (nodes t) c (get_or row c [])) (sym e) ∙ g.fits c h)).1

  held-byte : (c : ℕ) → c < t.cats → (w : Parts) → status c ≡ direct.Held w → (digit now.statuses c ≡ no c w + 1) × (1 ≤ no c w)
  held-byte c h w e =
      let k = number-node (nodes t) c w (held-node c h w e) in
      let small : no c w < 255 = omega (arith, k.1, k.2, nu.few-nodes) in
      (byte-is c h ∙ ap (λ z. byte_of (coded_status (nodes t) c z)) e ∙ sym (byte-held (Held (no c w)) (no c w) refl small), omega (arith, k.2))

  open-byte : (c : ℕ) → c < t.cats → status c ≡ direct.Open → digit now.statuses c ≡ 0
  open-byte c h e = byte-is c h ∙ ap (λ z. byte_of (coded_status (nodes t) c z)) e

  shut-byte : (c : ℕ) → c < t.cats → status c ≡ direct.Shut → digit now.statuses c ≡ 1
  shut-byte c h e = byte-is c h ∙ ap (λ z. byte_of (coded_status (nodes t) c z)) e

  not-one : (c : ℕ) → c < t.cats → (o : direct.Status) → status c ≡ o → (o ≡ direct.Shut → ⊥) → digit now.statuses c ≡ 1 → ⊥
  not-one c h direct.Open e k z = let y = open-byte c h e in omega arith
  not-one c h (direct.Held w) e k z = let y = held-byte c h w e in omega arith
  not-one c h direct.Shut e k z = k refl

  -- what the tests ask of a category
  abbrev rest : ℕ → Bool
  rest c = held_keeps rows ps inner n now c (digit now.statuses c) && all_below (min n most_signals) (signal_keeps rows ps inner n now c)

  few-signals : min n most_signals ≡ length t.signals
  few-signals = sym (min-le n most_signals nu.few-signals) ∙ sym nu.all-signals

  rest-to : (c : ℕ) → c < t.cats → (status c ≡ direct.Shut → ⊥) → category_keeps rows ps inner n now c ≡ true → rest c ≡ true
  unfolding category_keeps
  rest-to c h k e = sym (ap (λ b. cond b true (rest c)) (ne_eqb (digit now.statuses c) 1 (not-one c h (status c) refl k))) ∙ e

  module _ (k : ℕ) (all-cats : k ≡ t.cats) where
    few-cats : min k 8 ≡ t.cats
    few-cats = sym (min-le k 8 (omega (arith, nu.few-cats))) ∙ all-cats

    category-to : settled_by rows ps inner n k now ≡ true → (c : ℕ) → c < t.cats → category_keeps rows ps inner n now c ≡ true
    unfolding settled_by
    category-to e c h = all-to (min k 8) (category_keeps rows ps inner n now) e c (omega (arith, few-cats))

    tests-quiet : settled_by rows ps inner n k now ≡ true → Quiet t st g
    unfolding signal_keeps beside_keeps held_keeps
    tests-quiet e = record { beside = by-signal; under = by-held }
      where
        by-signal : (c : ℕ) → c < t.cats → (status c ≡ direct.Shut → ⊥) → (p : Parts) (s : ℕ) → s < length t.signals
            → row_of t s ≡ set row c p → (step (env_of t) st (urn c p)).signal ≡ st.signal
        by-signal c h open-still p s l r =
            let a = ((and-eq-true_iff (held_keeps rows ps inner n now c (digit now.statuses c))
            (all_below (min n most_signals) (signal_keeps rows ps inner n now c))).0 (rest-to c h open-still (category-to e c h))).1 in
            let b = all-to (min n most_signals) (signal_keeps rows ps inner n now c) a s (omega (arith, few-signals)) in
            let place : get_or (row_of t s) c [] ≡ p = ap (λ z. get_or z c []) r ∙ get_or-set_same row c p [] (wide st.signal c h) in
            let keeps = sym (ap (λ z. cond z (keeps_at rows ps inner n now c (digit (get_or rows s 0) c) true) true) (is-beside s c p l h r)) ∙ b in
            ap (λ z. (step (env_of t) st (urn c z)).signal) (sym place)
            ∙ keeps-to c h (get_or (row_of t s) c []) (row-nodes t s l c) false (digit-is s c l h) keeps

        by-held : (c : ℕ) → c < t.cats → (w : Parts) → status c ≡ direct.Held w → (step (env_of t) st (urn c (w ++ [] ∷ []))).signal ≡ st.signal
        by-held c h w i =
            let b = held-byte c h w i in
            let not-shut : status c ≡ direct.Shut → ⊥ = λ z. let y = shut-byte c h z in omega (arith, b) in
            let a = ((and-eq-true_iff (held_keeps rows ps inner n now c (digit now.statuses c))
            (all_below (min n most_signals) (signal_keeps rows ps inner n now c))).0 (rest-to c h not-shut (category-to e c h))).0 in
            let at : digit now.statuses c - 1 ≡ no c w = omega (arith, b) in
            let keeps = sym (ap (λ z. cond z true (keeps_at rows ps inner n now c (digit now.statuses c - 1) false))
            (lt-leb (digit now.statuses c) 1 (omega (arith, b)))) ∙ a in
            keeps-to c h w (inr (held-node c h w i)) true at keeps

    -- where the state is settled, all of them keep the signal
    settled-tests : is_settled t st ≡ true → settled_by rows ps inner n k now ≡ true
    unfolding settled_by category_keeps signal_keeps beside_keeps held_keeps
    settled-tests e = all_of (min k 8) (category_keeps rows ps inner n now) (λ c h. by c (omega (arith, few-cats)) (status c) refl)
      where
        places : (c : ℕ) → c < t.cats → all_below (min n most_signals) (signal_keeps rows ps inner n now c) ≡ true
        places c h = all_of (min n most_signals) (signal_keeps rows ps inner n now c)
            (λ s l. each s (omega (arith, few-signals)) (beside (row_at rows st.signal) (get_or rows s 0) c))
          where
            each : (s : ℕ) → s < length t.signals → (b : Bool) → cond b (keeps_at rows ps inner n now c (digit (get_or rows s 0) c) true) true ≡ true
            each s l false = refl
            each s l true =
                keeps-of c h (get_or (row_of t s) c []) (row-nodes t s l c) false (digit-is s c l h) (settled-keeps t st g wf e c h (get_or (row_of t s) c []))

        held : (c : ℕ) → c < t.cats → (o : direct.Status) → status c ≡ o
            → cond (leb (digit now.statuses c) 1) true (keeps_at rows ps inner n now c (digit now.statuses c - 1) false) ≡ true
        held c h direct.Open i = ap (λ z. cond z true (keeps_at rows ps inner n now c (digit now.statuses c - 1) false))
            (le-leb (digit now.statuses c) 1 (omega (arith, open-byte c h i)))
        held c h (direct.Held w) i =
            let b = held-byte c h w i in
            let at : digit now.statuses c - 1 ≡ no c w = omega (arith, b) in
            ap (λ z. cond z true (keeps_at rows ps inner n now c (digit now.statuses c - 1) false)) (lt-leb (digit now.statuses c) 1 (omega (arith, b)))
            ∙ keeps-of c h w (inr (held-node c h w i)) true at (settled-keeps t st g wf e c h (w ++ [] ∷ []))
        held c h direct.Shut i = ap (λ z. cond z true (keeps_at rows ps inner n now c (digit now.statuses c - 1) false))
            (le-leb (digit now.statuses c) 1 (omega (arith, shut-byte c h i)))

        pick : (b x : Bool) → x ≡ true → cond b true x ≡ true
        pick true x i = refl
        pick false x i = i

        by : (c : ℕ) → c < t.cats → (o : direct.Status) → status c ≡ o → cond (eqb (digit now.statuses c) 1) true (rest c) ≡ true
        by c h o i = pick (eqb (digit now.statuses c) 1) (rest c) (ap₂ ◌&&◌ (held c h o i) (places c h))

    pub settled-right : settled_by rows ps inner n k now ≡ is_settled t st
    settled-right = same_test (settled_by rows ps inner n k now) (is_settled t st) (λ e. quiet-settled t st g (tests-quiet e)) settled-tests
