-- A log's bytes and its calls, both ways.
use Prim.Native.Nat.{ℕ, zero, suc, ◌+◌, ◌/◌, ◌%◌, ◌≤◌, ◌<◌}
use mathlib.Core.Path.{◌≡◌, refl, sym, ap, ap₂, ◌∙◌}
use mathlib.Core.Bool.{Bool, ◌&&◌, and-eq-true_iff}
use mathlib.Core.List.{List, [], ◌∷◌, ◌++◌, append_assoc}
use native.Mathlib.Omega.{arith}
use native.Mathlib.Numerals.{add-one}
use lib.ListN.{length, get_or, take, drop, length-append, length-take, length-drop, take-append-drop, drop_of_length-le}
use lib.Seq.{drop-cons, drop-drop, get_or-drop, take-append_seam}
use lib.Dec.{eqb, leb}
use borrow.Author.Tests.{eq-eqb, le-leb, eqb-true}
use Rattle.base_numbers.specs.Numbers.{most_log_bytes}
use Rattle.base_lists.proofs.Cuts.{drop-next}
use Rattle.log_library.specs.Log.{word_at, Call, call_with, call_at, after_call, calls_from, end_from, calls_of, end_of, is_log}
use Rattle.log_library.specs.Written.{word, call_bytes, all_bytes, log_bytes}
use Rattle.log_library.specs.Claims.{WrittenRead, ReadWritten}
use Rattle.log_library.proofs.ReadLaws.{ends-after}

-- what stands at a position, from the bytes there
module _ (log : List ℕ) (at : ℕ) where
  byte-of : (i : ℕ) {l : List ℕ} → drop at log ≡ l → get_or log (at + i) 0 ≡ get_or l i 0
  byte-of i e = sym (get_or-drop at log i 0) ∙ ap (λ (x : List ℕ). get_or x i 0) e

  first_of : {l : List ℕ} → drop at log ≡ l → get_or log at 0 ≡ get_or l 0 0
  first_of e = let z : at ≡ at + 0 = omega arith in ap (λ (k : ℕ). get_or log k 0) z ∙ byte-of 0 e

  inside : (p r : List ℕ) → at ≤ length log → drop at log ≡ p ++ r → at + length p ≤ length log
  inside p r h e = omega (arith, length-drop at log, ap length e, length-append p r, h)

  word_of : (n : ℕ) (r : List ℕ) → drop at log ≡ word n ++ r → word_at log at ≡ n
  word_of n r e = omega (arith, first_of e, byte-of 1 e)

-- the bytes of a call at a position: the call, and what stands after it
module _ (log : List ℕ) (at : ℕ) (c : Call) (r : List ℕ) (e : drop at log ≡ call_bytes c ++ r) where
  abbrev three : List ℕ
  three = c.signal ∷ c.used ∷ c.skipped ∷ []

  length-is : word_at log at ≡ length c.value
  length-is = word_of log at (length c.value) ((c.value ++ three) ++ r) e

  from-value : drop (at + 2) log ≡ c.value ++ (three ++ r)
  from-value = drop-next log at (word (length c.value)) ((c.value ++ three) ++ r) e ∙ append_assoc c.value three r

  from-answer : drop (at + 2 + length c.value) log ≡ three ++ r
  from-answer = drop-next log (at + 2) c.value (three ++ r) from-value

  call-is : call_with log at (length c.value) ≡ c
  call-is = λ i.
      record {
        value = (ap (take (length c.value)) from-value ∙ take-append_seam c.value (three ++ r)) i;
        signal = first_of log (at + 2 + length c.value) from-answer i;
        used = byte-of log (at + 2 + length c.value) 1 from-answer i;
        skipped = byte-of log (at + 2 + length c.value) 2 from-answer i;
      }

  call-there : call_at log at ≡ c
  call-there = ap (call_with log at) length-is ∙ call-is

  after-there : drop (after_call log at) log ≡ r
  after-there = ap (λ (n : ℕ). drop (at + 2 + n + 3) log) length-is ∙ drop-next log (at + 2 + length c.value) three r from-answer

  after-inside : at ≤ length log → after_call log at ≤ length log
  after-inside h =
      omega (
        arith,
        length-is,
        inside log at (word (length c.value)) ((c.value ++ three) ++ r) h e,
        length-append c.value (three ++ r),
        length-drop (at + 2) log,
        ap length from-value,
      )

calls-there : (log : List ℕ) (cs : List Call) (at : ℕ) → at ≤ length log → drop at log ≡ all_bytes cs
    → (calls_from log at (length cs) ≡ cs) × (end_from log at (length cs) ≡ length log)
unfolding all_bytes calls_from end_from
calls-there log [] at h e = (refl, omega (arith, length-drop at log, ap length e, h))
calls-there log (c ∷ cs) at h e =
    let more = calls-there log cs (after_call log at) (after-inside log at c (all_bytes cs) e h) (after-there log at c (all_bytes cs) e) in
    (ap₂ (λ (x : Call) (l : List Call). x ∷ l) (call-there log at c (all_bytes cs) e) more.0, more.1)

pub written_read : WrittenRead
unfolding is_log
written_read cs h =
    let log = log_bytes cs in
    let few : word_at log 0 ≡ length cs = word_of log 0 (length cs) (all_bytes cs) refl in
    let there = calls-there log cs 2 (omega arith) refl in (
      ap₂ (λ (a : Bool) (b : Bool). a && b) (le-leb (length log) most_log_bytes h)
          (eq-eqb (end_of log) (length log) (ap (end_from log 2) few ∙ there.1)),
      ap (calls_from log 2) few ∙ there.0,
    )

-- the bytes at a position, one by one
module _ (log : List ℕ) where
  front : (p : ℕ) → p < length log → drop p log ≡ get_or log p 0 ∷ drop (p + 1) log
  front p h = drop-cons log p 0 h ∙ ap (λ (k : ℕ). get_or log p 0 ∷ drop k log) (sym (add-one p))

  front-two : (p : ℕ) → p + 2 ≤ length log → drop p log ≡ get_or log p 0 ∷ get_or log (p + 1) 0 ∷ drop (p + 2) log
  front-two p h =
      let z : p + 1 + 1 ≡ p + 2 = omega arith in
      front p (omega arith) ∙ ap (λ (l : List ℕ). get_or log p 0 ∷ l) (front (p + 1) (omega arith) ∙ ap (λ (k : ℕ). get_or log (p + 1) 0 ∷ drop k log) z)

  front-three : (p : ℕ) → p + 3 ≤ length log → drop p log ≡ get_or log p 0 ∷ get_or log (p + 1) 0 ∷ get_or log (p + 2) 0 ∷ drop (p + 3) log
  front-three p h =
      let z : p + 2 + 1 ≡ p + 3 = omega arith in
      front-two p (omega arith)
      ∙ ap (λ (l : List ℕ). get_or log p 0 ∷ get_or log (p + 1) 0 ∷ l) (front (p + 2) (omega arith) ∙ ap (λ (k : ℕ). get_or log (p + 2) 0 ∷ drop k log) z)

  module _ (bytes : (i : ℕ) → get_or log i 0 < 256) where
    word_back : (at n : ℕ) → n ≡ word_at log at → word n ≡ get_or log at 0 ∷ get_or log (at + 1) 0 ∷ []
    word_back at n e =
        let low : n % 256 ≡ get_or log at 0 = omega (arith, e, bytes at, bytes (at + 1)) in
        let high : n / 256 ≡ get_or log (at + 1) 0 = omega (arith, e, bytes at, bytes (at + 1)) in
        ap₂ (λ (a : ℕ) (b : ℕ). a ∷ b ∷ []) low high

    call_back : (at : ℕ) → after_call log at ≤ length log → call_bytes (call_at log at) ++ drop (after_call log at) log ≡ drop at log
    call_back at h =
        let w = word_at log at in
        let v = take w (drop (at + 2) log) in
        let three = get_or log (at + 2 + w) 0 ∷ get_or log (at + 2 + w + 1) 0 ∷ get_or log (at + 2 + w + 2) 0 ∷ [] in
        let long : length v ≡ w = length-take w (drop (at + 2) log) ∙ omega (arith, length-drop (at + 2) log, h) in
        let tail : (v ++ three) ++ drop (after_call log at) log ≡ drop (at + 2) log =
        append_assoc v three (drop (after_call log at) log)
        ∙ ap (λ (l : List ℕ). v ++ l) (sym (front-three (at + 2 + w) h) ∙ sym (drop-drop w (at + 2) log))
        ∙ take-append-drop w (drop (at + 2) log) in
        ap (λ (l : List ℕ). l ++ ((v ++ three) ++ drop (after_call log at) log)) (word_back at (length v) long)
        ∙ ap (λ (l : List ℕ). get_or log at 0 ∷ get_or log (at + 1) 0 ∷ l) tail
        ∙ sym (front-two at (omega (arith, h)))

    calls_back : (n at : ℕ) → at ≤ length log → end_from log at n ≡ length log → all_bytes (calls_from log at n) ≡ drop at log
    unfolding all_bytes calls_from end_from
    calls_back zero at h e = sym (drop_of_length-le log {i = at} (omega (arith, e)))
    calls_back (suc n) at h e =
        let k : after_call log at ≤ length log = omega (arith, ends-after log n (after_call log at), e) in
        ap (λ (l : List ℕ). call_bytes (call_at log at) ++ l) (calls_back n (after_call log at) k e) ∙ call_back at k

calls-many : (log : List ℕ) (n at : ℕ) → length (calls_from log at n) ≡ n
unfolding calls_from
calls-many log zero at = refl
calls-many log (suc n) at = ap suc (calls-many log n (after_call log at))

pub read-written : ReadWritten
unfolding is_log
read-written log bytes h =
    let ends : end_of log ≡ length log = eqb-true _ _ ((and-eq-true_iff (leb (length log) most_log_bytes) (eqb (end_of log) (length log))).0 h).1 in
    let two : 2 ≤ length log = omega (arith, ends-after log (word_at log 0) 2, ends) in
    ap₂ (λ (p : List ℕ) (q : List ℕ). p ++ q) (word_back log bytes 0 (length (calls_of log)) (calls-many log (word_at log 0) 2))
    (calls_back log bytes (word_at log 0) 2 two ends)
    ∙ sym (front-two log 0 two)
