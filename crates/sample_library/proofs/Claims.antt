-- What specs/Claims says of the values and of the answers.
use Prim.Native.Nat.{ℕ, suc, ◌≤◌, ◌<◌}
use mathlib.Core.Path.{◌≡◌, refl, sym, ap, ◌∙◌, subst}
use mathlib.Core.Logic.{inl, inr}
use mathlib.Core.Bool.{true, false}
use mathlib.Core.List.{List, [], ◌∷◌, Memᴰ}
use native.Mathlib.Omega.{arith}
use lib.Dec.{eqb, ltb}
use lib.ListN.{length, take, drop, replicate, length-append, length-drop, length-replicate}
use lib.Seq.{take-append_seam, drop-append_seam}
use borrow.Author.Tests.{eq-eqb, ne_eqb, eqb-true, eqb-false, ltb-true, ltb-false}
use Rattle.base_numbers.specs.Numbers.{sample_room}
use Rattle.base_lists.specs.Lists.{over}
use Rattle.base_lists.proofs.Bools.{by_test}
use Rattle.value_reader.specs.Value.{refusal_of, uris_of}
use Rattle.value_reader.proofs.Agree.{refused-exactly, accepted-list, unique}
use Rattle.table_decode.specs.Tables.{table_refusal, category_names, RefusalNumber}
use Rattle.table_decode.specs.Examples.{least}
use Rattle.table_decode.proofs.RefusalNumbers.{refusal-numbers}
use Rattle.table_decode.proofs.Examples.{least-formed, each_number}
use Rattle.sample_seed.specs.Numbers.{next_of, choice_of}
use Rattle.sample_library.specs.Sample.{Made, drawn_of, value_of, sample_of, refused_with, made_of, buffer_of}
use Rattle.sample_library.specs.Claims.{choices_in, after, GoodSample, AllGood, Answers, AllAnswers, MakerNumber, MakerNumbers, EachMakerNumber}
use Rattle.sample_library.proofs.ValueLaws.{Good, bare-value, value-short, good-draws, draws-length, few-choice}
use Rattle.sample_library.proofs.ChoiceLaws.{after_first, draws-choices}

-- the value of good URIs is accepted, and lists them
made-of : (t : List ℕ) (x : ℕ) (us : List (List ℕ)) → (drawn_of t x).uris ≡ us → 0 < length us → length us ≤ 8
    → length us ≡ suc (choice_of (next_of x) 8) → ((v : List ℕ) → Memᴰ v us → Good v)
    → (drawn_of t x).seed ≡ after (suc (choices_in (category_names t) us)) x → GoodSample t x
made-of t x [] e h few count g a = absurd (omega arith)
made-of t x (u ∷ us) e h few count g a =
    let s : value_of (u ∷ us) ≡ (sample_of t x).value = ap value_of (sym e) in
    let k = bare-value u us g in
    let short = value-short u us g in
    let ok : refusal_of (value_of (u ∷ us)) ≡ 0 = (refused-exactly (value_of (u ∷ us)) 0).1 (omega (arith, short), u ∷ us, k, omega arith) in
    let l : uris_of (value_of (u ∷ us)) ≡ u ∷ us = unique (value_of (u ∷ us)) (uris_of (value_of (u ∷ us))) (u ∷ us) (accepted-list (value_of (u ∷ us)) ok) k in
    let list : uris_of (sample_of t x).value ≡ u ∷ us = ap uris_of (sym s) ∙ l in
    record {
      accepted = ap refusal_of (sym s) ∙ ok;
      listed = list ∙ sym e;
      counted = ap length list ∙ count;
      alerts = λ v m. (g v (subst (λ (l : List (List ℕ)). Memᴰ v l) list m)).alert;
      short = omega (arith, ap length s, short);
      advanced = a ∙ ap (λ (l : List (List ℕ)). after (suc (choices_in (category_names t) l)) x) (sym list);
    }

pub all-good : AllGood
unfolding drawn_of
all-good t formed x =
    let n = draws-length t formed (next_of x) (suc (choice_of (next_of x) 8)) in
    made-of t x (drawn_of t x).uris refl (omega (arith, n)) (omega (arith, n, few-choice (next_of x))) n
    (good-draws t formed (next_of x) (suc (choice_of (next_of x) 8)))
    (draws-choices t formed (next_of x) (suc (choice_of (next_of x) 8)) ∙ after_first (choices_in (category_names t) (drawn_of t x).uris) x)

-- the three cases of an answer: refused by the table, refused for the room, made
module _ (t : List ℕ) (x : ℕ) (b : List ℕ) where
  abbrev answer : Made
  answer = made_of t x (length b)

  abbrev made : Made
  made = record { refusal = 0; len = length (sample_of t x).value; seed = (sample_of t x).seed }

  by-table : eqb (table_refusal t) 0 ≡ false → (answer ≡ refused_with (table_refusal t) x) × (buffer_of t x b ≡ b)
  unfolding made_of buffer_of
  by-table e = simp e (refl, refl)

  by-room : eqb (table_refusal t) 0 ≡ true → ltb (length b) sample_room ≡ true → (answer ≡ refused_with 26 x) × (buffer_of t x b ≡ b)
  unfolding made_of buffer_of
  by-room e f = simp (e, f) (refl, refl)

  by_value : eqb (table_refusal t) 0 ≡ true → ltb (length b) sample_room ≡ false → (answer ≡ made) × (buffer_of t x b ≡ over (sample_of t x).value b)
  unfolding made_of buffer_of
  by_value e f = simp (e, f) (refl, refl)

  refused-table : eqb (table_refusal t) 0 ≡ false → Answers t x b
  refused-table e =
      let c = by-table e in
      let n = eqb-false (table_refusal t) 0 e in
      let r : answer.refusal ≡ table_refusal t = ap (λ (m : Made). m.refusal) c.0 in
      record {
        table-first = λ _. r;
        too_short = λ z. absurd (n z);
        refused-keeps = λ _. (c.1, ap (λ (m : Made). m.seed) c.0, ap (λ (m : Made). m.len) c.0);
        value = λ z. absurd (n (sym r ∙ z));
        past-kept = λ z. absurd (n (sym r ∙ z));
        as_long = ap length c.1;
      }

  refused-room : eqb (table_refusal t) 0 ≡ true → ltb (length b) sample_room ≡ true → Answers t x b
  refused-room e f =
      let c = by-room e f in
      let z = eqb-true (table_refusal t) 0 e in
      let r : answer.refusal ≡ 26 = ap (λ (m : Made). m.refusal) c.0 in
      let h = ltb-true (length b) sample_room f in
      record {
        table-first = λ n. absurd (n z);
        too_short = λ _. (λ _. h, λ _. r);
        refused-keeps = λ _. (c.1, ap (λ (m : Made). m.seed) c.0, ap (λ (m : Made). m.len) c.0);
        value = λ k. absurd (omega (arith, r, k));
        past-kept = λ k. absurd (omega (arith, r, k));
        as_long = ap length c.1;
      }

  answered : eqb (table_refusal t) 0 ≡ true → ltb (length b) sample_room ≡ false → Answers t x b
  unfolding over
  answered e f =
      let c = by_value e f in
      let z = eqb-true (table_refusal t) 0 e in
      let v : List ℕ = (sample_of t x).value in
      let r : answer.refusal ≡ 0 = ap (λ (m : Made). m.refusal) c.0 in
      let l : answer.len ≡ length v = ap (λ (m : Made). m.len) c.0 in
      let h = ltb-false (length b) sample_room f in
      let s = (all-good t z x).short in
      record {
        table-first = λ n. absurd (n z);
        too_short = λ _. (λ k. absurd (omega (arith, r, k)), λ k. absurd (omega (arith, h, k)));
        refused-keeps = λ k. absurd (k r);
        value = λ _. ap (λ (n : ℕ). take n (buffer_of t x b)) l ∙ ap (take (length v)) c.1 ∙ take-append_seam v (drop (length v) b);
        past-kept = λ _. ap (λ (n : ℕ). drop n (buffer_of t x b)) l ∙ ap (drop (length v)) c.1 ∙ drop-append_seam v (drop (length v) b)
            ∙ ap (λ (n : ℕ). drop n b) (sym l);
        as_long = ap length c.1 ∙ omega (arith, length-append v (drop (length v) b), length-drop (length v) b, s, h);
      }

  -- the numbers
  number : MakerNumber answer.refusal
  number =
      by_test (eqb (table_refusal t) 0)
      (λ e. by_test (ltb (length b) sample_room) (λ f. inr (inr (ap (λ (m : Made). m.refusal) (by-room e f).0)))
      (λ f. inl (ap (λ (m : Made). m.refusal) (by_value e f).0)))
      (λ e. go (refusal-numbers t) (ap (λ (m : Made). m.refusal) (by-table e).0))
    where
      go : RefusalNumber (table_refusal t) → answer.refusal ≡ table_refusal t → MakerNumber answer.refusal
      go (inl z) r = inl (r ∙ z)
      go (inr h) r = inr (inl (omega (arith, h.0, r), omega (arith, h.1, r)))

pub all-answers : AllAnswers
all-answers t x b =
    by_test (eqb (table_refusal t) 0)
    (λ e. by_test (ltb (length b) sample_room) (refused-room t x b e) (answered t x b e))
    (refused-table t x b)

pub maker-numbers : MakerNumbers
maker-numbers t x n = subst (λ (k : ℕ). MakerNumber (made_of t x k).refusal) (length-replicate n 0) (number t x (replicate n 0))

-- the number for a buffer of n bytes
by_number : (t : List ℕ) (x n k : ℕ) → table_refusal t ≡ k → (k ≡ 0 → ⊥) → (made_of t x n).refusal ≡ k
unfolding made_of
by_number t x n k e z = simp (ne_eqb (table_refusal t) 0 (λ q. z (sym e ∙ q))) e

pub each-maker-number : EachMakerNumber
unfolding made_of
each-maker-number k (inl z) = (least, 1, sample_room, simp (eq-eqb (table_refusal least) 0 least-formed) (sym z))
each-maker-number k (inr (inl h)) =
    let g = each_number k (inr h) in
    (g.0, 1, 0, by_number g.0 1 0 k g.1 (λ q. omega (arith, h.0, q)))
each-maker-number k (inr (inr z)) = (least, 1, 4095, simp (eq-eqb (table_refusal least) 0 least-formed) (sym z))
