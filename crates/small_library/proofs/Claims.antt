-- The claims of specs/Claims.antt, proved.
use Prim.Native.Nat.{ℕ, ◌+◌, ◌≤◌, ◌<◌}
use mathlib.Core.Path.{◌≡◌, refl, sym, ap, ◌∙◌}
use mathlib.Core.Logic.{◌⊎◌, inl, inr}
use mathlib.Core.Bool.{Bool, true, false, cond}
use mathlib.Core.Option.{Option, some, none}
use mathlib.Core.List.{List, [], ◌∷◌}
use lib.Dec.{eqb, ltb}
use lib.ListN.{length, replicate}
use borrow.Author.Tests.{eqb-true, eqb-false, eq-eqb, ne_eqb}
use native.Mathlib.Nat.{mul-le-mul_right}
use native.Mathlib.Omega.{arith}
use Rattle.base_numbers.specs.Numbers.{most_states, most_symbols}
use Rattle.base_lists.specs.Lists.{all_below}
use Rattle.theory_resolution.specs.Table.{Table}
use Rattle.theory_resolution.specs.Direct.{start, same_state}
use Rattle.theory_resolution.specs.Symbols.{symbols}
use Rattle.theory_resolution.specs.Build.{discovered, machine_of}
use Rattle.theory_resolution.specs.Machine.{machine_state, row_right}
use Rattle.theory_resolution.proofs.Build.{machine-length}
use Rattle.machine_image.specs.Image.{image_of, machine_image, machine_in, state_count}
use Rattle.machine_image.specs.Refusals.{form_of, check_of}
use Rattle.machine_image.specs.Storable.{Storable}
use Rattle.machine_image.proofs.Stored.{image-symbols, image-states, image-target}
use Rattle.machine_image.proofs.Build.{few-found, own-storable}
use Rattle.table_decode.specs.Tables.{table_of, table_refusal}
use Rattle.table_decode.proofs.RefusalNumbers.{refusal-numbers}
use Rattle.table_decode.proofs.Accepting.{accepted}
use Rattle.machine_library.specs.Built.{check_from}
use Rattle.machine_library.proofs.Claims.{every-build}
use Rattle.theory_minimal.specs.Machine.{Machine, Formed, Sequence, run, Reachable}
use Rattle.theory_minimal.specs.Proposal.{class_of, first_of, class_count, small, Fits}
use Rattle.theory_minimal.specs.Refine.{classes}
use Rattle.theory_minimal.specs.Test.{all_reached, fits, proposed}
use Rattle.theory_minimal.specs.Laws.{ProposerLaw}
use Rattle.theory_minimal.specs.Tables.{numbers_of}
use Rattle.theory_minimal.proofs.Alike.{sequence-first, sequence-rest}
use Rattle.theory_minimal.proofs.Reach.{values-fit}
use Rattle.theory_minimal.proofs.Fits.{test-to, test_of}
use Rattle.theory_minimal.proofs.Theorems.{proposer-law, classes-law}
use Rattle.theory_minimal.proofs.Tables.{all-before}
use Rattle.small_image.specs.Small.{small_form}
use Rattle.small_image.specs.Numbers.{numbers_in, small_of}
use Rattle.small_image.proofs.Placed.{image-formed, small-layout}
use Rattle.small_image.proofs.Walks.{first-state, large-formed, small-fits, small-claim}
use Rattle.small_write.specs.Answer.{refusal_in, answer_in, buffer_in}
use Rattle.small_write.proofs.AnswerLaws.{answer-short, answer-done}
use Rattle.small_library.specs.Smaller.{machine_from, classes_refusal, number_of, bytes_of, propose_refusal}
use Rattle.small_library.specs.Claims.{CheckExactly, ProposeExactly, Proposes, CheckClaim, WritesClaim, RefusedClaim, ProposeClaim, OwnClaim}
use Rattle.small_library.specs.Claims.{ClassesNumber, SmallNumber, NumbersClaim}
use Rattle.small_library.proofs.AnswerLaws.{well, right, formed, symbols-few}
use Rattle.theory_resolution.specs.Machine as tables
use Rattle.machine_image.proofs.Form as image

-- the numbers of the checker
check-numbers : (a b c : Bool) → cond a (cond b (cond c 0 17) 16) 15 ≤ 17
check-numbers true true true = omega arith
check-numbers true true false = omega arith
check-numbers true false c = omega arith
check-numbers false b c = omega arith

check-small : (T : Table) (im : List ℕ) → check_of T im ≤ 17
unfolding check_of
check-small T im =
    check-numbers (form_of T im) (same_state (machine_state (machine_in T im) 0).pair (start T.cats))
    (all_below (length (machine_in T im)) (row_right T (machine_in T im)))

module _ (t im : List ℕ) where
  within : check_from t im ≤ 17
  unfolding check_from
  within = go (eqb (table_refusal t) 0) (refusal-numbers t)
    where
      go : (b : Bool) → (table_refusal t ≡ 0) ⊎ ((4 ≤ table_refusal t) × (table_refusal t ≤ 12)) → cond b (check_of (table_of t) im) (table_refusal t) ≤ 17
      go true d = check-small (table_of t) im
      go false (inl z) = omega (arith, z)
      go false (inr d) = omega (arith, d.1)

  abbrev m : Machine
  m = machine_from t im

  machine-formed : check_from t im ≡ 0 → Formed m
  machine-formed z = large-formed (table_of t) im (formed t im z)

  check-before : (p : List ℕ) → (check_from t im ≡ 0 → ⊥) → classes_refusal t im p ≡ check_from t im
  unfolding classes_refusal
  check-before p n = ap (λ b. cond b (cond (fits m p) 0 27) (check_from t im)) (ne_eqb (check_from t im) 0 n)

  check-after : (p : List ℕ) → check_from t im ≡ 0 → classes_refusal t im p ≡ cond (fits m p) 0 27
  unfolding classes_refusal
  check-after p z = ap (λ b. cond b (cond (fits m p) 0 27) (check_from t im)) (eq-eqb (check_from t im) 0 z)

  propose-before : (check_from t im ≡ 0 → ⊥) → propose_refusal t im ≡ check_from t im
  unfolding propose_refusal
  propose-before n = ap (λ b. cond b (number_of (proposed m)) (check_from t im)) (ne_eqb (check_from t im) 0 n)

  propose-after : check_from t im ≡ 0 → propose_refusal t im ≡ number_of (proposed m)
  unfolding propose_refusal
  propose-after z = ap (λ b. cond b (number_of (proposed m)) (check_from t im)) (eq-eqb (check_from t im) 0 z)

  -- a number that is 0 or over 17 is not the checker's refusal
  checked : (x : ℕ) → ((check_from t im ≡ 0 → ⊥) → x ≡ check_from t im) → (x ≡ 0) ⊎ (17 < x) → check_from t im ≡ 0
  checked x f d = go (eqb (check_from t im) 0) refl d
    where
      go : (b : Bool) → eqb (check_from t im) 0 ≡ b → (x ≡ 0) ⊎ (17 < x) → check_from t im ≡ 0
      go true e d = eqb-true (check_from t im) 0 e
      go false e (inl z) = sym (f (eqb-false (check_from t im) 0 e)) ∙ z
      go false e (inr h) = absurd (omega (arith, within, f (eqb-false (check_from t im) 0 e)))

  module _ (p : List ℕ) where
    test-no : (b : Bool) → fits m p ≡ b → ◌≡◌ {A = ℕ} (cond b 0 27) 27 → fits m p ≡ false
    test-no true e z = absurd (omega (arith, z))
    test-no false e z = e

    test-yes : (b : Bool) → fits m p ≡ b → ◌≡◌ {A = ℕ} (cond b 0 27) 0 → fits m p ≡ true
    test-yes true e z = e
    test-yes false e z = absurd (omega (arith, z))

    fits-no : Formed m → (Fits m p → ⊥) → (b : Bool) → fits m p ≡ b → ◌≡◌ {A = ℕ} (cond b 0 27) 27
    fits-no f n true e = absurd (n (test-to m f p e))
    fits-no f n false e = refl

    pub fitting-to : classes_refusal t im p ≡ 0 → (check_from t im ≡ 0) × Fits m p
    fitting-to h =
        let z = checked (classes_refusal t im p) (check-before p) (inl h) in
        (z, test-to m (machine-formed z) p (test-yes (fits m p) refl (sym (check-after p z) ∙ h)))

    pub fitting-of : check_from t im ≡ 0 → Fits m p → classes_refusal t im p ≡ 0
    fitting-of z f = check-after p z ∙ ap (λ b. cond b 0 27) (test_of m (machine-formed z) p f)

    exactly : CheckExactly t im p
    exactly =
        record {
          before = check-before p;
          fitting = (fitting-to, λ a. fitting-of a.0 a.1);
          twenty-seven = (
            λ h.
                let z = checked (classes_refusal t im p) (check-before p) (inr (omega (arith, h))) in
                let n = test-no (fits m p) refl (sym (check-after p z) ∙ h) in
                (z, λ f. false≠ (sym n ∙ test_of m (machine-formed z) p f)),
            λ a. check-after p a.0 ∙ fits-no (machine-formed a.0) a.1 (fits m p) refl,
          );
        }
      where
        false≠ : false ≡ true → ⊥
        false≠ e = let z : ◌≡◌ {A = ℕ} 0 1 = ap (λ b. cond b 1 0) e in omega (arith, z)

pub check-claim : CheckClaim
check-claim t im p = exactly t im p

-- the numbers
check-parts : (a b c : Bool) → ClassesNumber (cond a (cond b (cond c 0 17) 16) 15)
check-parts true true true = inl refl
check-parts true true false = inr (inr (inl (omega arith, omega arith)))
check-parts true false c = inr (inr (inl (omega arith, omega arith)))
check-parts false b c = inr (inr (inl (omega arith, omega arith)))

check-of-image : (T : Table) (im : List ℕ) → ClassesNumber (check_of T im)
unfolding check_of
check-of-image T im =
    check-parts (form_of T im) (same_state (machine_state (machine_in T im) 0).pair (start T.cats))
    (all_below (length (machine_in T im)) (row_right T (machine_in T im)))

check-from : (t im : List ℕ) → ClassesNumber (check_from t im)
unfolding check_from
check-from t im = go (eqb (table_refusal t) 0) (refusal-numbers t)
  where
    go : (b : Bool) → (table_refusal t ≡ 0) ⊎ ((4 ≤ table_refusal t) × (table_refusal t ≤ 12)) → ClassesNumber (cond b (check_of (table_of t) im) (table_refusal t))
    go true d = check-of-image (table_of t) im
    go false (inl z) = inl z
    go false (inr d) = inr (inl d)

fit-number : (b : Bool) → ClassesNumber (cond b 0 27)
fit-number true = inl refl
fit-number false = inr (inr (inr refl))

option-number : (x : Option (List ℕ)) → ClassesNumber (number_of x)
option-number none = inr (inr (inr refl))
option-number (some p) = inl refl

either_number : (b : Bool) (x r : ℕ) → ClassesNumber x → ClassesNumber r → ClassesNumber (cond b x r)
either_number true x r f g = f
either_number false x r f g = g

classes-number : (t im p : List ℕ) → ClassesNumber (classes_refusal t im p)
unfolding classes_refusal
classes-number t im p =
    either_number (eqb (check_from t im) 0) (cond (fits (machine_from t im) p) 0 27) (check_from t im) (fit-number (fits (machine_from t im) p)) (check-from t im)

propose-numbers : (t im : List ℕ) → ClassesNumber (propose_refusal t im)
unfolding propose_refusal
propose-numbers t im =
    either_number (eqb (check_from t im) 0) (number_of (proposed (machine_from t im))) (check_from t im)
    (option-number (proposed (machine_from t im))) (check-from t im)

room-number : (b c : Bool) (k : ℕ) → ClassesNumber k → SmallNumber (cond b (cond c 14 0) k)
room-number true true k h = inr refl
room-number true false k h = inl (inl refl)
room-number false c k h = inl h

answer-number : (k : ℕ) (bytes : List ℕ) (room : ℕ) → ClassesNumber k → SmallNumber (answer_in k bytes room).refusal
unfolding answer_in refusal_in
answer-number k bytes room h = room-number (eqb k 0) (ltb room (length bytes)) k h

pub numbers-claim : NumbersClaim
numbers-claim t im p room =
    record {
      checks = classes-number t im p;
      writes = answer-number (classes_refusal t im p) (small_of (table_of t) im p) room (classes-number t im p);
      proposes = answer-number (propose_refusal t im) (bytes_of (proposed (machine_from t im))) room (propose-numbers t im);
    }

-- no more classes than states
fewer-classes : (m : Machine) → Formed m → (p : List ℕ) → Fits m p → class_count p ≤ m.states
fewer-classes m ok p f =
    values-fit (first_of p) (class_count p) m.states (λ c h. (first-state m ok p f c h).0)
    (λ c d h k e. sym (first-state m ok p f c h).1 ∙ ap (class_of p) e ∙ (first-state m ok p f d k).1)

right-form-of : (T : Table) (im : List ℕ) (ok : image.Formed T im) (p : List ℕ) (f : Fits (numbers_in T.cats im) p) → class_count p ≤ most_states
    → small_form T (small_of T im p) ≡ true
unfolding small_of
right-form-of T im ok p f few = image-formed T (small (numbers_in T.cats im) p) (small-fits T im ok p f few)

short-of : (T : Table) (im : List ℕ) (ok : image.Formed T im) (p : List ℕ) (f : Fits (numbers_in T.cats im) p)
    → class_count p ≤ most_states → length (symbols T) ≤ most_symbols
    → length (small_of T im p) ≤ 33411
unfolding small_of
short-of T im ok p f few s =
    let e = (small-layout T (small (numbers_in T.cats im) p) (small-fits T im ok p f few)).ends in
    omega (arith, e, mul-le-mul_right (length (symbols T) + 1) few, s)

pub writes-claim : WritesClaim
writes-claim t im p h =
    let a = fitting-to t im p h in
    let z = a.0 in
    let T = table_of t in
    let ok = formed t im z in
    let few : class_count p ≤ state_count im = fewer-classes (machine_from t im) (machine-formed t im z) p a.1 in
    record {
      written = λ room l.
          let w = answer-done (small_of T im p) room l in
          (ap (λ k. answer_in k (small_of T im p) room) h ∙ sym w.0, ap (λ k. buffer_in k (small_of T im p) room) h ∙ sym w.1);
      fourteen = λ room l. ap (λ k. (answer_in k (small_of T im p) room).refusal) h ∙ sym (ap (λ b. b.refusal) (answer-short (small_of T im p) room l).0);
      right-form = right-form-of T im ok p a.1 (omega (arith, few, ok.few-states));
      short = short-of T im ok p a.1 (omega (arith, few, ok.few-states)) (symbols-few t im z);
      no_more = few;
      walks = λ before after used. small-claim T (accepted t (well t im z)).well im (right t im z) p a.1 before after used;
    }

-- after any refusal
cleared : (k : ℕ) (bytes : List ℕ) (room : ℕ) → ((answer_in k bytes room).refusal ≡ 0 → ⊥) → ((answer_in k bytes room).len ≡ 0)
    × (buffer_in k bytes room ≡ replicate room 0)
unfolding answer_in buffer_in
cleared k bytes room n = rw (ne_eqb (refusal_in k bytes room) 0 n) (refl, refl)

pub refused-claim : RefusedClaim
refused-claim t im room =
    record {
      no-image = λ p. cleared (classes_refusal t im p) (small_of (table_of t) im p) room;
      no-proposal = cleared (propose_refusal t im) (bytes_of (proposed (machine_from t im))) room;
    }

-- the proposer
given_is : (m : Machine) (b : Bool) (p : List ℕ) → ◌≡◌ {A = Option (List ℕ)} (cond b (some (classes m)) none) (some p) → classes m ≡ p
given_is m true p e = cc
given_is m false p e = let z : ◌≡◌ {A = ℕ} 0 1 = cc in absurd (omega (arith, z))

module _ (t im : List ℕ) where
  abbrev mine : Machine
  mine = machine_from t im

  law : check_from t im ≡ 0 → ProposerLaw mine
  law z = proposer-law mine (machine-formed t im z)

  none-to : (x : Option (List ℕ)) → proposed mine ≡ x → ◌≡◌ {A = ℕ} (number_of x) 27 → proposed mine ≡ none
  none-to none e h = e
  none-to (some p) e h = absurd (omega (arith, h))

  some_to : (x : Option (List ℕ)) → proposed mine ≡ x → ◌≡◌ {A = ℕ} (number_of x) 0 → proposed mine ≡ some (bytes_of x)
  some_to none e h = absurd (omega (arith, h))
  some_to (some p) e h = e

  propose-exactly : ProposeExactly t im
  propose-exactly =
      record {
        before = propose-before t im;
        twenty-seven = (
          λ h.
              let z = checked t im (propose_refusal t im) (propose-before t im) (inr (omega (arith, h))) in
              (z, λ p a. (law z).none-fits (none-to (proposed mine) refl (sym (propose-after t im z) ∙ h)) p (fitting-to t im p a).1),
          λ a. propose-after t im a.0 ∙ ap number_of ((law a.0).none-given (λ p f. a.1 p (fitting-of t im p a.0 f))),
        );
      }

  proposes : propose_refusal t im ≡ 0 → Proposes t im
  proposes h =
      let z = checked t im (propose_refusal t im) (propose-before t im) (inl h) in
      let e = some_to (proposed mine) refl (sym (propose-after t im z) ∙ h) in
      let f = (law z).given-fits (bytes_of (proposed mine)) e in
      record {
        one_each = f.sized;
        accepted-itself = fitting-of t im (bytes_of (proposed mine)) z f;
        numbered = rw (← given_is mine (all_reached mine (classes mine)) (bytes_of (proposed mine)) e) (classes-law mine (machine-formed t im z)).numbered;
        only = λ p a. (law z).unique p (bytes_of (proposed mine)) (fitting-to t im p a).1 f;
        as_many = λ p a. (law z).same_count p (bytes_of (proposed mine)) (fitting-to t im p a).1 f;
      }

pub propose-claim : ProposeClaim
propose-claim t im = (propose-exactly t im, proposes t im)

-- machines that agree at every state and symbol run alike
agree-run : (a b : Machine) → Formed a → ((j s : ℕ) → j < a.states → s < a.symbols → b.target j s ≡ a.target j s)
    → (j : ℕ) → j < a.states → (w : List ℕ) → Sequence a w → run b j w ≡ run a j w
agree-run a b ok same j h [] l = refl
agree-run a b ok same j h (s ∷ w) l =
    let i = sequence-first a s w l in
    ap (λ z. run b z w) (same j s h i) ∙ agree-run a b ok same (a.target j s) (ok.leads j s h i) w (sequence-rest a s w l)

module _ (T : Table) (few : length (discovered T most_states) ≤ most_states) (ok : Storable T (machine_of T (discovered T most_states))) where
  abbrev own : tables.Machine
  own = machine_of T (discovered T most_states)

  abbrev im : List ℕ
  im = image_of T own

  abbrev plain : Machine
  plain = numbers_of T own

  plain-formed : Formed plain
  plain-formed = record { some-state = ok.some-state; leads = ok.leads }

  all-reached : (j : ℕ) → j < state_count im → Reachable (numbers_in T.cats im) j
  all-reached j h =
      let l = machine-length T (discovered T most_states) in
      let r = all-before T most_states (length (discovered T most_states)) (omega arith) j (omega (arith, image-states T own, l)) in
      record {
        by = r.by;
        listed = λ k i. omega (arith, image-symbols T own, r.listed k i);
        leads =
            agree-run plain (numbers_in T.cats im) plain-formed (λ i s a b. image-target T own ok i s a b) 0 ok.some-state r.by r.listed
            ∙ r.leads;
      }

pub own-claim : OwnClaim
own-claim t e few =
    let T = table_of t in
    let n = few-found T few in
    let z = (every-build t e few).checked in
    let ok = own-storable T (accepted t e).well n in (
      propose-after t (machine_image T) z
          ∙ ap number_of ((proposer-law (machine_from t (machine_image T)) (machine-formed t (machine_image T) z)).all-reachable (all-reached T n ok)),
      (exactly t (machine_image T) []).twenty-seven.1 (z, λ f. empty-no f.sized (machine-formed t (machine_image T) z).some-state),
    )
  where
    empty-no : {n : ℕ} → ◌≡◌ {A = ℕ} 0 n → 0 < n → ⊥
    empty-no e h = omega (arith, e, h)
