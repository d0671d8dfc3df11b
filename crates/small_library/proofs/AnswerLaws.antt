-- What the code answers over an image's rows is what is answered for the image; an accepted image has what they ask for.
use Prim.Native.Nat.{ℕ, ◌+◌, ◌*◌, ◌≤◌, min}
use mathlib.Core.Path.{◌≡◌, refl, sym, ap, ◌∙◌}
use mathlib.Core.Bool.{Bool, true, false, cond}
use mathlib.Core.Option.{Option, some, none}
use mathlib.Core.List.{List, []}
use lib.Dec.{eqb}
use lib.ListN.{length, take, replicate}
use borrow.Author.Tests.{eqb-true, eqb-false, eq-eqb, ne_eqb}
use native.Mathlib.Omega.{arith}
use Rattle.base_numbers.specs.Numbers.{most_symbols}
use Rattle.base_numbers.specs.Refusals.{refusal_number}
use Rattle.base_numbers.specs.declared.refusal.Refusal.{Refusal}
use Rattle.base_numbers.proofs.Refusals.{refusal-some}
use Rattle.base_bytes.specs.Built.{refused}
use Rattle.base_lists.proofs.Numbers.{min-le}
use Rattle.theory_resolution.specs.Symbols.{symbols}
use Rattle.theory_resolution.proofs.SymbolCount.{few-symbols}
use Rattle.machine_image.specs.Image.{symbol_count, state_count}
use Rattle.machine_image.specs.Refusals.{check_of}
use Rattle.machine_image.proofs.Form.{Formed, form-to}
use Rattle.machine_image.proofs.Check.{check-to}
use Rattle.table_decode.specs.Tables.{table_of, table_refusal}
use Rattle.table_decode.specs.Decoded.{DecodedAs}
use Rattle.node_search.specs.declared.decoded.Decoded.{Decoded}
use Rattle.table_decode.specs.Accepted.{Accepted}
use Rattle.table_decode.proofs.Accepting.{accepted}
use Rattle.base_bytes.specs.declared.Built.{Built}
use Rattle.machine_library.specs.Built.{check_from}
use Rattle.machine_library.proofs.Claims.{all-used}
use Rattle.theory_minimal.specs.Test.{fits, proposed}
use Rattle.small_rounds.specs.Stored.{stored_machine}
use Rattle.small_classes.specs.Check.{stored_fits, stored_proposed}
use Rattle.small_image.specs.Numbers.{small_of}
use Rattle.small_write.specs.Answer.{answer_in, buffer_in}
use Rattle.small_write.specs.Written.{small_by, fit_refusal}
use Rattle.small_write.proofs.AnswerLaws.{answer-refused}
use Rattle.small_library.specs.Smaller.{machine_from, classes_refusal, number_of, bytes_of, propose_refusal}
use Rattle.small_library.specs.Rows.{front_of, rows_of, machine_by}
use Rattle.small_library.proofs.RowLaws.{fits-same, proposed-same, small_same}

-- the part of an image before the state count as the code lends it
pub front-is : (im : List ℕ) (k : ℕ) → k ≡ symbol_count im → take (1 + 3 * k) im ≡ front_of im
front-is im k e = ap (λ z. take (1 + 3 * z) im) e

-- the same answers for the numbers that the code has read
module _ (im : List ℕ) (rows : List ℕ) (n h k head : ℕ) (is : (rows ≡ rows_of im) × (n ≡ state_count im) × (h ≡ head) × (k ≡ symbol_count im)) where
  read : {A : Type 0} (f : List ℕ → ℕ → ℕ → ℕ → A) → f rows n h k ≡ f (rows_of im) (state_count im) head (symbol_count im)
  read f =
      ap (λ z. f z n h k) is.0
      ∙ ap (λ z. f (rows_of im) z h k) is.1
      ∙ ap (λ z. f (rows_of im) (state_count im) z k) is.2
      ∙ ap (λ z. f (rows_of im) (state_count im) head z) is.3

  pub fit-yes : (p : List ℕ) (b : Bool) → b ≡ stored_fits rows n h k p → b ≡ true
      → ◌≡◌ {A = ℕ} 0 (fit_refusal (rows_of im) (state_count im) head (symbol_count im) p)
  unfolding fit_refusal
  fit-yes p b e t = rw (sym (read (λ r n h k. stored_fits r n h k p)) ∙ sym e ∙ t)

  pub fit-no : (p : List ℕ) (b : Bool) → b ≡ stored_fits rows n h k p → b ≡ false
      → ◌≡◌ {A = ℕ} 27 (fit_refusal (rows_of im) (state_count im) head (symbol_count im) p)
  unfolding fit_refusal
  fit-no p b e t = rw (sym (read (λ r n h k. stored_fits r n h k p)) ∙ sym e ∙ t)

  pub proposed-read : stored_proposed rows n h k ≡ stored_proposed (rows_of im) (state_count im) head (symbol_count im)
  proposed-read = read stored_proposed

  pub write_read : (front p : List ℕ) (room : ℕ) → front ≡ front_of im
      → (answer_in (fit_refusal rows n h k p) (small_by front (stored_machine rows n h k) p) room
      ≡ answer_in (fit_refusal (rows_of im) (state_count im) head (symbol_count im) p) (small_by (front_of im) (machine_by im head) p) room)
      × (buffer_in (fit_refusal rows n h k p) (small_by front (stored_machine rows n h k) p) room
      ≡ buffer_in (fit_refusal (rows_of im) (state_count im) head (symbol_count im) p) (small_by (front_of im) (machine_by im head) p) room)
  write_read front p room e = (
    ap (λ f. answer_in (fit_refusal rows n h k p) (small_by f (stored_machine rows n h k) p) room) e
        ∙ read (λ r n h k. answer_in (fit_refusal r n h k p) (small_by (front_of im) (stored_machine r n h k) p) room),
    ap (λ f. buffer_in (fit_refusal rows n h k p) (small_by f (stored_machine rows n h k) p) room) e
        ∙ read (λ r n h k. buffer_in (fit_refusal r n h k p) (small_by (front_of im) (stored_machine r n h k) p) room),
  )

-- the proposer's answer by what was proposed
module _ (x : Option (List ℕ)) (room : ℕ) where
  pub none-answer : x ≡ none → (refused 27 ≡ answer_in (number_of x) (bytes_of x) room) × (replicate room 0 ≡ buffer_in (number_of x) (bytes_of x) room)
  none-answer e = rw e (answer-refused [] room 27 (λ q. omega (arith, q)))

  pub some-answer : (p : List ℕ) (r : Built) (b : List ℕ) → x ≡ some p → r ≡ answer_in 0 p room → b ≡ buffer_in 0 p room
      → (r ≡ answer_in (number_of x) (bytes_of x) room) × (b ≡ buffer_in (number_of x) (bytes_of x) room)
  some-answer p r b e f g = rw e (f, g)

pub given-none : (x : Option (List ℕ)) (p : List ℕ) (b : Bool) → x ≡ cond b (some p) none → b ≡ false → x ≡ none
given-none x p b e t = e ∙ rw t

pub given-some : (x : Option (List ℕ)) (p : List ℕ) (b : Bool) → x ≡ cond b (some p) none → b ≡ true → x ≡ some p
given-some x p b e t = e ∙ rw t

-- what is refused before
module _ (t im : List ℕ) (r : Refusal) (e : refusal_number r ≡ check_from t im) where
  n : refusal_number r ≡ 0 → ⊥
  n z = omega (arith, z, refusal-some r)

  other : eqb (check_from t im) 0 ≡ false
  other = ne_eqb (check_from t im) 0 (λ z. n (e ∙ z))

  pub check-refused : (p : List ℕ) → refusal_number r ≡ classes_refusal t im p
  unfolding classes_refusal
  check-refused p = e ∙ sym (rw other)

  propose-number : refusal_number r ≡ propose_refusal t im
  unfolding propose_refusal
  propose-number = e ∙ sym (rw other)

  pub write-refused : (p bytes : List ℕ) (room : ℕ) → (refused (refusal_number r) ≡ answer_in (classes_refusal t im p) bytes room)
      × (replicate room 0 ≡ buffer_in (classes_refusal t im p) bytes room)
  write-refused p bytes room = rw (← check-refused p) (answer-refused bytes room (refusal_number r) n)

  pub propose-refused : (bytes : List ℕ) (room : ℕ) → (refused (refusal_number r) ≡ answer_in (propose_refusal t im) bytes room)
      × (replicate room 0 ≡ buffer_in (propose_refusal t im) bytes room)
  propose-refused bytes room = rw (← propose-number) (answer-refused bytes room (refusal_number r) n)

both_zero : (b : Bool) (x r : ℕ) → eqb r 0 ≡ b → ◌≡◌ {A = ℕ} (cond b x r) 0 → (r ≡ 0) × (x ≡ 0)
both_zero true x r e z = (eqb-true r 0 e, z)
both_zero false x r e z = absurd (eqb-false r 0 e z)

-- an accepted image
module _ (t im : List ℕ) (z : check_from t im ≡ 0) where
  both : (table_refusal t ≡ 0) × (check_of (table_of t) im ≡ 0)
  unfolding check_from
  both = both_zero (eqb (table_refusal t) 0) (check_of (table_of t) im) (table_refusal t) refl z

  pub well : table_refusal t ≡ 0
  well = both.0

  pub right : check_of (table_of t) im ≡ 0
  right = both.1

  pub formed : Formed (table_of t) im
  formed = form-to (table_of t) im (check-to (table_of t) im right).0

  pub accepted-table : Accepted (table_of t)
  accepted-table = accepted t well

  pub symbols-few : length (symbols (table_of t)) ≤ most_symbols
  symbols-few = omega (arith, few-symbols (table_of t) (all-used t well), accepted-table.few-nodes)

  same : eqb (check_from t im) 0 ≡ true
  same = eq-eqb (check_from t im) 0 z

  refusal-same : (p : List ℕ) → fit_refusal (rows_of im) (state_count im) (1 + (table_of t).cats) (symbol_count im) p ≡ classes_refusal t im p
  unfolding fit_refusal classes_refusal
  refusal-same p =
      ap (λ b. cond b 0 27) (fits-same (table_of t) im formed accepted-table.few-categories symbols-few p)
      ∙ sym (ap (λ b. cond b (cond (fits (machine_from t im) p) 0 27) (check_from t im)) same)

  -- the bytes before the targets that were told
  module _ (head : ℕ) (e : head ≡ 1 + (table_of t).cats) where
    pub check-accepted : (p : List ℕ) (r : ℕ) → r ≡ fit_refusal (rows_of im) (state_count im) head (symbol_count im) p → r ≡ classes_refusal t im p
    check-accepted p r d = d ∙ ap (λ h. fit_refusal (rows_of im) (state_count im) h (symbol_count im) p) e ∙ refusal-same p

    bytes_same : (p : List ℕ) → small_by (front_of im) (machine_by im head) p ≡ small_of (table_of t) im p
    bytes_same p =
        ap (λ h. small_by (front_of im) (machine_by im h) p) e
        ∙ small_same (table_of t) im formed accepted-table.few-categories symbols-few p

    pub write-accepted : (p : List ℕ) (room : ℕ)
        → (answer_in (fit_refusal (rows_of im) (state_count im) head (symbol_count im) p) (small_by (front_of im) (machine_by im head) p) room
        ≡ answer_in (classes_refusal t im p) (small_of (table_of t) im p) room)
        × (buffer_in (fit_refusal (rows_of im) (state_count im) head (symbol_count im) p) (small_by (front_of im) (machine_by im head) p) room
        ≡ buffer_in (classes_refusal t im p) (small_of (table_of t) im p) room)
    write-accepted p room =
        let a = check-accepted p (fit_refusal (rows_of im) (state_count im) head (symbol_count im) p) refl in (
          ap (λ x. answer_in x (small_by (front_of im) (machine_by im head) p) room) a ∙ ap (λ x. answer_in (classes_refusal t im p) x room) (bytes_same p),
          ap (λ x. buffer_in x (small_by (front_of im) (machine_by im head) p) room) a ∙ ap (λ x. buffer_in (classes_refusal t im p) x room) (bytes_same p),
        )

    proposal-same : stored_proposed (rows_of im) (state_count im) head (symbol_count im) ≡ proposed (machine_from t im)
    proposal-same =
        ap (λ h. stored_proposed (rows_of im) (state_count im) h (symbol_count im)) e
        ∙ proposed-same (table_of t) im formed accepted-table.few-categories symbols-few

    number_same : number_of (stored_proposed (rows_of im) (state_count im) head (symbol_count im)) ≡ propose_refusal t im
    unfolding propose_refusal
    number_same = ap number_of proposal-same ∙ sym (ap (λ b. cond b (number_of (proposed (machine_from t im))) (check_from t im)) same)

    pub propose-accepted : (room : ℕ)
        → (answer_in (number_of (stored_proposed (rows_of im) (state_count im) head (symbol_count im)))
        (bytes_of (stored_proposed (rows_of im) (state_count im) head (symbol_count im))) room
        ≡ answer_in (propose_refusal t im) (bytes_of (proposed (machine_from t im))) room)
        × (buffer_in (number_of (stored_proposed (rows_of im) (state_count im) head (symbol_count im)))
        (bytes_of (stored_proposed (rows_of im) (state_count im) head (symbol_count im))) room
        ≡ buffer_in (propose_refusal t im) (bytes_of (proposed (machine_from t im))) room)
    propose-accepted room = (
      ap (λ x. answer_in x (bytes_of (stored_proposed (rows_of im) (state_count im) head (symbol_count im))) room) number_same
          ∙ ap (λ x. answer_in (propose_refusal t im) (bytes_of x) room) proposal-same,
      ap (λ x. buffer_in x (bytes_of (stored_proposed (rows_of im) (state_count im) head (symbol_count im))) room) number_same
          ∙ ap (λ x. buffer_in (propose_refusal t im) (bytes_of x) room) proposal-same,
    )

-- the bytes before a state's targets: one for the signal, and one for each category
pub head-is : (t : List ℕ) (r : Decoded) → DecodedAs t r → (n : ℕ) → n ≡ min r.categories 8 → n + 1 ≡ 1 + (table_of t).cats
head-is t r m n e =
    let w : n ≡ (table_of t).cats =
    e ∙ ap (λ k. min k 8) m.holds.categories ∙ sym (min-le (table_of t).cats 8 (accepted t m.refusal).few-categories) in
    omega (arith, w)
