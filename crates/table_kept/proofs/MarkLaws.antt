-- What the answers of marks.rt are, case by case.
use Prim.Native.Nat.{ℕ, suc, ◌+◌, ◌*◌, ◌≤◌, ◌<◌}
use mathlib.Core.Path.{◌≡◌, sym, ap, ◌∙◌, refl}
use mathlib.Core.Bool.{Bool, true, false, cond}
use mathlib.Core.List.{List}
use lib.Dec.{eqb, ltb}
use lib.ListN.{get_or, set, length}
use lib.Seq.{get_or-set_same, get_or-set_other}
use borrow.Author.Tests.{lt-ltb, le-ltb}
use native.Mathlib.Numerals.{add-one}
use native.Mathlib.Omega.{arith}
use native.Mathlib.Decide.{ℕ_discrete}
use Rattle.base_numbers.specs.Numbers.{most_nodes, most_signals}
use Rattle.node_step.specs.declared.State.{State}
use Rattle.node_step.specs.Step.{place_in, row_at, reaches, extends, step_numbers}
use Rattle.std.specs.Option.{unwrap_or}
use Rattle.node_step.specs.Step.{found_at, with_place, find_row}
use Rattle.table_kept.specs.Marks.{with_node, found_or, after_node, precedes, next_by, next_in, open_state, rings_at}

-- the signal after a node, by what was found
module _ (rows ps : List ℕ) (n s c d : ℕ) where
  abbrev test : Bool
  test = extends ps (place_in (row_at rows s) c) d true

  -- the test, as the code comes to it
  pub test_of : {row q : ℕ} {b : Bool} → row ≡ row_at rows s → q ≡ place_in row c → b ≡ extends ps q d true → b ≡ test
  test_of e i j = j ∙ ap (λ z. extends ps z d true) (i ∙ ap (λ z. place_in z c) e)

  by-test : (b : Bool) → test ≡ b → after_node rows ps n s c d ≡ cond b (found_or s (with_node rows n s c d)) s
  unfolding after_node
  by-test b e = ap (λ x. cond x (found_or s (with_node rows n s c d)) s) e

  pub after-not : {b : Bool} → b ≡ test → b ≡ false → s ≡ after_node rows ps n s c d
  after-not e f = sym (by-test false (sym e ∙ f))

  pub after-found : {b : Bool} → b ≡ test → b ≡ true → unwrap_or (found_at (with_node rows n s c d)) s ≡ after_node rows ps n s c d
  after-found e f = or-signal (with_node rows n s c d) (ltb (with_node rows n s c d) most_signals) refl ∙ sym (by-test true (sym e ∙ f))
    where
      or-signal : (i : ℕ) (b : Bool) → ltb i most_signals ≡ b → unwrap_or (found_at i) s ≡ found_or s i
      or-signal i true h = rw h
      or-signal i false h = rw h

-- a row with another place, and the signal that has it
pub key-is : (rows : List ℕ) (n s c d : ℕ) {row key : ℕ} → row ≡ row_at rows s → key ≡ with_place row c d → find_row rows key 0 n ≡ with_node rows n s c d
key-is rows n s c d e f = ap (λ z. find_row rows z 0 n) (f ∙ ap (λ z. with_place z c d) e)

-- whether a node may be given before another
pub precedes-at : (ps cats : List ℕ) (c d k : ℕ) {r : Bool} → r ≡ cond (eqb (get_or cats k 0) c) (reaches ps (k + 1) 9 d) true → r ≡ precedes ps cats c d k
unfolding precedes
precedes-at ps cats c d k e = e ∙ ap (λ z. cond (eqb (get_or cats k 0) c) (reaches ps z 9 d) true) (add-one k)

-- the signal after the node with index k
module _ (rows ps cats : List ℕ) (n : ℕ) (may : List Bool) (s k : ℕ) where
  pub next-given : {c r : ℕ} → get_or may k false ≡ true → c ≡ get_or cats k 0 → r ≡ after_node rows ps n s c (k + 1) → r ≡ next_by rows ps cats n may s k
  unfolding next_by
  next-given {c} h e f =
      f ∙ ap (λ z. after_node rows ps n s z (k + 1)) e ∙ ap (after_node rows ps n s (get_or cats k 0)) (add-one k)
      ∙ sym (ap (λ x. cond x (after_node rows ps n s (get_or cats k 0) (suc k)) s) h)

  pub next-not : get_or may k false ≡ false → s ≡ next_by rows ps cats n may s k
  unfolding next_by
  next-not h = sym (ap (λ x. cond x (after_node rows ps n s (get_or cats k 0) (suc k)) s) h)

-- the signal of direct resolution
pub rings-is : (rows ps : List ℕ) (inner : List Bool) (n s c d : ℕ) {o st : State} → o ≡ open_state s → st ≡ step_numbers rows ps inner n o c d true
    → st.signal ≡ rings_at rows ps inner n s c d
unfolding rings_at
rings-is rows ps inner n s c d e f = ap (λ z. z.signal) (f ∙ ap (λ o. step_numbers rows ps inner n o c d true) e)

-- the tests and the targets, filled one after the other
pub fill-tests : (l : List Bool) (f : ℕ → Bool) (i : ℕ) {v : Bool} → i < length l → ((k : ℕ) → k < i → get_or l k false ≡ f k) → v ≡ f i
    → (k : ℕ) → k < i + 1 → get_or (set l i v) k false ≡ f k
fill-tests l f i {v} h p e k m = go (ℕ_discrete k i)
  where
    go : Dec (k ≡ i) → get_or (set l i v) k false ≡ f k
    go (yes q) = rw q (get_or-set_same l i v false h ∙ e)
    go (no q) = get_or-set_other l i k v false q ∙ p k (omega arith)

-- the signal as stored
module _ (all : List ℕ) (s k : ℕ) where
  pub stored_at : {i : ℕ} → i ≡ s * most_nodes + k → i < 2048 → get_or all i 0 ≡ next_in all s k
  unfolding next_in
  stored_at {i} e h = ap (λ z. get_or all z 0) e ∙ sym (ap (λ b. cond b (get_or all (s * most_nodes + k) 0) 0) (lt-ltb (s * most_nodes + k) 2048 (omega arith)))

  pub stored_past : {i : ℕ} → i ≡ s * most_nodes + k → 2048 ≤ i → 0 ≡ next_in all s k
  unfolding next_in
  stored_past {i} e h = sym (ap (λ b. cond b (get_or all (s * most_nodes + k) 0) 0) (le-ltb (s * most_nodes + k) 2048 (omega arith)))
