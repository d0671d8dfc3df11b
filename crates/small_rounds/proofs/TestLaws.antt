-- Laws of the test whether there is a machine in rows of bytes.
use Prim.Native.Nat.{ℕ, ◌+◌, ◌*◌, ◌≤◌}
use mathlib.Core.Path.{◌≡◌, sym, ◌∙◌}
use mathlib.Core.Bool.{Bool, true, false, ◌&&◌, and-eq-true_iff}
use mathlib.Core.List.{List}
use lib.Dec.{leb, eqb}
use lib.ListN.{length}
use borrow.Author.Tests.{leb-true, ltb-true, le-leb, lt-ltb, eq-eqb, ne_eqb}
use native.Mathlib.Omega.{arith}
use Rattle.std.specs.Prelude.{IsTrue, ◌↔◌}
use Rattle.std.proofs.lemmas.Bool.{false_from_ne_true, true≢false}
use Rattle.base_numbers.specs.Numbers.{most_states}
use Rattle.base_lists.proofs.Below.{all-to, all_of}
use Rattle.base_lists.specs.Lists.{all_below}
use Rattle.small_rounds.specs.Stored.{stored_machine, leads_on, row_leads, is_stored, Room, Stored}

-- the test
module _ (rows : List ℕ) (n head k : ℕ) where
  -- where it passes, the counts are in range and the bytes are there
  pub room_of : is_stored rows n head k ≡ true → Room rows n head k
  unfolding is_stored
  room_of t =
      let a = (and-eq-true_iff (leb 1 n) _).0 t in
      let b = (and-eq-true_iff (leb n most_states) _).0 a.1 in
      let d = (and-eq-true_iff (leb 1 head) _).0 b.1 in
      let e = (and-eq-true_iff (leb head 512) _).0 d.1 in
      let f = (and-eq-true_iff (leb k 512) _).0 e.1 in
      let g = (and-eq-true_iff (leb (n * (head + k)) (length rows)) _).0 f.1 in
      record {
        some = leb-true 1 n a.0;
        few = leb-true n most_states b.0;
        signalled = leb-true 1 head d.0;
        short = leb-true head 512 e.0;
        narrow = leb-true k 512 f.0;
        bytes = leb-true (n * (head + k)) (length rows) g.0;
      }

  -- where they are, it is left to the targets
  pub test-rest : Room rows n head k → is_stored rows n head k ≡ all_below n (row_leads (stored_machine rows n head k))
  unfolding is_stored
  test-rest r =
      rw (
        le-leb 1 n r.some,
        le-leb n most_states r.few,
        le-leb 1 head r.signalled,
        le-leb head 512 r.short,
        le-leb k 512 r.narrow,
        le-leb (n * (head + k)) (length rows) r.bytes,
      )

  pub no-room : {r : Bool} → IsTrue r ↔ Room rows n head k → r ≡ false → false ≡ is_stored rows n head k
  no-room h e = sym (false_from_ne_true _ (λ t. true≢false (sym (h.1 (room_of t)) ∙ e)))

  -- what a passed test says, and when it passes
  pub stored_of : is_stored rows n head k ≡ true → Stored rows n head k
  stored_of t =
      let m = stored_machine rows n head k in
      let r = room_of t in
      let g = sym (test-rest r) ∙ t in
      record {
        few = r.few;
        signalled = r.signalled;
        narrow = omega (arith, r.short, r.narrow);
        room = r.bytes;
        formed =
            record {
              some-state = r.some;
              leads = λ j s o i. ltb-true (m.target j s) n (all-to k (leads_on m j) (all-to n (row_leads m) g j o) s i);
            };
      }

  pub is-stored : head ≤ 512 → k ≤ 512 → Stored rows n head k → is_stored rows n head k ≡ true
  is-stored h i st =
      let m = stored_machine rows n head k in
      test-rest (record { some = st.formed.some-state; few = st.few; signalled = st.signalled; short = h; narrow = i; bytes = st.room })
      ∙ all_of n (row_leads m) (λ j a. all_of k (leads_on m j) (λ s b. lt-ltb (m.target j s) n (st.formed.leads j s a b)))

-- the answer of the rounds for any lists to work in: only if there is a machine, and both lists are of its length
module _ (s : Bool) (l k n : ℕ) where
  pub answer-no : s ≡ false → false ≡ (s && (eqb l n && eqb k n))
  answer-no e = rw e

  pub answer-short : s ≡ true → (l ≡ n → ⊥) → false ≡ (s && (eqb l n && eqb k n))
  answer-short e h = rw (e, ne_eqb l n h)

  pub answer-other : s ≡ true → l ≡ n → (k ≡ n → ⊥) → false ≡ (s && (eqb l n && eqb k n))
  answer-other e a h = rw (e, eq-eqb l n a, ne_eqb k n h)

  pub answer-yes : s ≡ true → l ≡ n → k ≡ n → true ≡ (s && (eqb l n && eqb k n))
  answer-yes e a b = rw (e, eq-eqb l n a, eq-eqb k n b)
