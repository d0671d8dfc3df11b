-- The claims, proved.
use Prim.Native.Nat.{ℕ, zero, suc, ◌+◌, ◌≤◌, ◌<◌}
use mathlib.Core.Path.{◌≡◌, refl, sym, ap, ◌∙◌, subst}
use mathlib.Core.Logic.{◌⊎◌, inl, inr, ◌↔◌}
use mathlib.Core.Bool.{Bool, true, false, cond, ◌&&◌, and-eq-true_iff, true≢false, false≢true}
use mathlib.Core.List.Memᴰ
use mathlib.Core.List.{List, [], ◌∷◌, Memᴰ}
use native.Mathlib.Omega.{arith}
use lib.ListN.{length, get_or}
use lib.Dec.{eqb, leb, ltb}
use borrow.Author.Tests.{eq-eqb, leb-true, leb-false, eqb-true, eqb-false, ltb-true, ltb-false}
use Rattle.base_numbers.specs.Numbers.{most_log_bytes}
use Rattle.base_lists.proofs.Lists.{mem-at}
use Rattle.base_lists.proofs.Bools.{by_test}
use Rattle.value_reader.specs.Value.{uris_of}
use Rattle.table_decode.specs.Tables.{table_refusal}
use Rattle.table_decode.specs.Examples.{least}
use Rattle.table_decode.proofs.RefusalNumbers.{refusal-numbers}
use Rattle.table_decode.proofs.Examples.{least-formed, each_number as each-table}
use Rattle.resolve_run.specs.Answers.{number_of, refused as not_resolved, answered}
use Rattle.resolve_run.specs.declared.Resolution.{Resolution}
use Rattle.resolve_run.proofs.AnswerLaws.{unless-number}
use Rattle.resolve_library.specs.Resolve.{direct_signal, plain_of}
use Rattle.log_library.specs.Log.{Call, calls_from, end_from, calls_of, end_of, is_log}
use Rattle.log_library.specs.Verdict.{same_answer, agrees, refused, all_agree, differs, judged, verdict_of}
use Rattle.log_library.specs.Claims.{Right, NoLog, AllRight, no_call, call_in, FirstWrong, LogNumber, Judges, JudgeClaim, RefusedClaim, EachNumber}
use Rattle.log_library.specs.declared.Verdict.{Verdict}
use Rattle.log_library.proofs.JudgeLaws.{verdict-table, verdict-log}

-- a call's three bytes are right, or not
right : (t : List ℕ) (c : Call) → agrees t c ≡ true → Right t c
unfolding same_answer
right t c e =
    let r = plain_of t c.value in
    let a = (and-eq-true_iff (eqb r.signal c.signal) (eqb r.used c.used && eqb r.skipped c.skipped)).0 e in
    let b = (and-eq-true_iff (eqb r.used c.used) (eqb r.skipped c.skipped)).0 a.1 in
    record { signal = sym (eqb-true _ _ a.0); used = sym (eqb-true _ _ b.0); skipped = sym (eqb-true _ _ b.1) }

not_right : (t : List ℕ) (c : Call) → agrees t c ≡ false → Right t c → ⊥
unfolding same_answer
not_right t c e h =
    let r = plain_of t c.value in
    let z : agrees t c ≡ true =
    (and-eq-true_iff (eqb r.signal c.signal) (eqb r.used c.used && eqb r.skipped c.skipped)).1 (
      eq-eqb _ _ (sym h.signal),
      (and-eq-true_iff (eqb r.used c.used) (eqb r.skipped c.skipped)).1 (eq-eqb _ _ (sym h.used), eq-eqb _ _ (sym h.skipped)),
    ) in
    true≢false (sym z ∙ e)

-- among calls counted from k: all are right, or here is the first that is not
record Wrong (t : List ℕ) (k : ℕ) (cs : List Call) : Type 0 where
  place : ℕ
  there : place < length cs
  wrong : Right t (get_or cs place no_call) → ⊥
  first : (j : ℕ) → j < place → Right t (get_or cs j no_call)
  says : judged t k cs ≡ differs (k + place) (plain_of t (get_or cs place no_call).value)

abbrev Found : List ℕ → ℕ → List Call → Type 0
Found t k cs = (((c : Call) → Memᴰ c cs → Right t c) × (judged t k cs ≡ all_agree)) ⊎ Wrong t k cs

all_none : (t : List ℕ) (c : Call) → Memᴰ c [] → Right t c
all_none t c m = absurd (Memᴰ.not-nil m)

found : (t : List ℕ) (k : ℕ) (cs : List Call) → Found t k cs
unfolding judged
found t k [] = inl (all_none t, refl)
found t k (c ∷ cs) = go (agrees t c) refl (found t (suc k) cs)
  where
    by-test : {b : Bool} → agrees t c ≡ b → judged t k (c ∷ cs) ≡ cond b (judged t (suc k) cs) (differs k (plain_of t c.value))
    by-test e = ap (λ (b : Bool). cond b (judged t (suc k) cs) (differs k (plain_of t c.value))) e

    all : Right t c → ((d : Call) → Memᴰ d cs → Right t d) → (d : Call) → Memᴰ d (c ∷ cs) → Right t d
    all h f d m = at (Memᴰ.cases_cons m)
      where
        at : (d ≡ c) ⊎ Memᴰ d cs → Right t d
        at (inl e) = subst (Right t) (sym e) h
        at (inr i) = f d i

    before-it : Right t c → (w : Wrong t (suc k) cs) → (j : ℕ) → j < suc w.place → Right t (get_or (c ∷ cs) j no_call)
    before-it h w zero i = h
    before-it h w (suc j) i = w.first j (omega arith)

    go : (b : Bool) → agrees t c ≡ b → Found t (suc k) cs → Found t k (c ∷ cs)
    go true e (inl x) = inl (all (right t c e) x.0, by-test e ∙ x.1)
    go true e (inr w) =
        let p : suc k + w.place ≡ k + suc w.place = omega arith in
        inr (record {
          place = suc w.place;
          there = omega (arith, w.there);
          wrong = w.wrong;
          first = before-it (right t c e) w;
          says = by-test e ∙ w.says ∙ ap (λ (j : ℕ). differs j (plain_of t (get_or cs w.place no_call).value)) p;
        })
    go false e f =
        let p : k ≡ k + 0 = omega arith in
        inr (record {
          place = 0;
          there = omega arith;
          wrong = not_right t c e;
          first = λ j i. absurd (omega arith);
          says = by-test e ∙ ap (λ (j : ℕ). differs j (plain_of t c.value)) p;
        })

-- no log, or one
no-log-false : (log : List ℕ) → NoLog log → is_log log ≡ false
unfolding is_log
no-log-false log h = by_test (is_log log) (λ e. absurd (no e)) (λ e. e)
  where
    no : is_log log ≡ true → ⊥
    no e =
        let a = (and-eq-true_iff (leb (length log) most_log_bytes) (eqb (end_of log) (length log))).0 e in
        at (leb-true _ _ a.0) (eqb-true _ _ a.1) h
      where
        at : length log ≤ most_log_bytes → end_of log ≡ length log → NoLog log → ⊥
        at p q (inl x) = omega (arith, p, x)
        at p q (inr (inl x)) = omega (arith, q, x)
        at p q (inr (inr x)) = omega (arith, q, x)

false-no-log : (log : List ℕ) → is_log log ≡ false → NoLog log
unfolding is_log
false-no-log log e =
    by_test (leb (length log) most_log_bytes) (λ p. ends p) (λ p. inl (omega (arith, leb-false (length log) most_log_bytes p)))
  where
    order : (end_of log ≡ length log → ⊥) → (length log < end_of log) ⊎ (end_of log < length log)
    order n = by_test (ltb (length log) (end_of log)) (λ p. inl (ltb-true _ _ p)) (λ p. inr (less (ltb-false _ _ p)))
      where
        less : end_of log ≤ length log → end_of log < length log
        less q = by_test (ltb (end_of log) (length log)) (λ p. ltb-true _ _ p) (λ p. absurd (n (omega (arith, q, ltb-false (end_of log) (length log) p))))

    ends : leb (length log) most_log_bytes ≡ true → NoLog log
    ends p = by_test (eqb (end_of log) (length log))
        (λ q. absurd (false≢true (sym e ∙ (and-eq-true_iff (leb (length log) most_log_bytes) (eqb (end_of log) (length log))).1 (p, q))))
        (λ q. inr (order (eqb-false _ _ q)))

module _ (t log : List ℕ) where
  -- the calls of a log
  module _ (z : table_refusal t ≡ 0) where
    module _ (l : is_log log ≡ true) where
      calls-judged : (AllRight t log × (verdict_of t log ≡ all_agree)) ⊎ FirstWrong t log
      calls-judged = go (found t 0 (calls_of log))
        where
          go : Found t 0 (calls_of log) → (AllRight t log × (verdict_of t log ≡ all_agree)) ⊎ FirstWrong t log
          go (inl x) = inl (x.0, verdict-log t log z l ∙ x.1)
          go (inr w) =
              let p : 0 + w.place ≡ w.place = omega arith in
              inr (record {
                call = w.place;
                there = w.there;
                wrong = w.wrong;
                first = w.first;
                says = verdict-log t log z l ∙ w.says ∙ ap (λ (j : ℕ). differs j (plain_of t (call_in log w.place).value)) p;
              })

      not-refused : (verdict_of t log).refusal ≡ 0
      not-refused = go calls-judged
        where
          go : (AllRight t log × (verdict_of t log ≡ all_agree)) ⊎ FirstWrong t log → (verdict_of t log).refusal ≡ 0
          go (inl x) = ap (λ (v : Verdict). v.refusal) x.1
          go (inr w) = ap (λ (v : Verdict). v.refusal) w.says

    is-log : (NoLog log → ⊥) → is_log log ≡ true
    is-log n = by_test (is_log log) (λ e. e) (λ e. absurd (n (false-no-log log e)))

    no-log : verdict_of t log ≡ refused 25 → NoLog log
    no-log e = by_test (is_log log) (λ l. absurd (other l)) (λ l. false-no-log log l)
      where
        other : is_log log ≡ true → ⊥
        other l = let q : ◌≡◌ {A = ℕ} 0 25 = sym (not-refused l) ∙ ap (λ (v : Verdict). v.refusal) e in omega (arith, q)

    each-call : (NoLog log → ⊥) → AllRight t log ⊎ FirstWrong t log
    each-call n = go (calls-judged (is-log n))
      where
        go : (AllRight t log × (verdict_of t log ≡ all_agree)) ⊎ FirstWrong t log → AllRight t log ⊎ FirstWrong t log
        go (inl x) = inl x.0
        go (inr w) = inr w

    all-agree : (NoLog log → ⊥) → (verdict_of t log ≡ all_agree) ↔ AllRight t log
    all-agree n = go (calls-judged (is-log n))
      where
        go : (AllRight t log × (verdict_of t log ≡ all_agree)) ⊎ FirstWrong t log → (verdict_of t log ≡ all_agree) ↔ AllRight t log
        go (inl x) = (λ _. x.0, λ _. x.1)
        go (inr w) = (
          (λ h. let q : ◌≡◌ {A = ℕ} 0 1 = ap (λ (v : Verdict). v.agrees) (sym w.says ∙ h) in absurd (omega (arith, q))),
          λ h. absurd (w.wrong (h (call_in log w.call) (mem-at (calls_of log) w.call no_call w.there))),
        )

  -- the number, and what else is said with it
  abbrev Said : Type 0
  Said = LogNumber (verdict_of t log).refusal × (((verdict_of t log).refusal ≡ 0 → ⊥) → verdict_of t log ≡ refused (verdict_of t log).refusal)

  said-refused : (k : ℕ) → LogNumber k → verdict_of t log ≡ refused k → Said
  said-refused k h e =
      let q : (verdict_of t log).refusal ≡ k = ap (λ (v : Verdict). v.refusal) e in
      (subst LogNumber (sym q) h, λ n. e ∙ ap refused (sym q))

  said : Said
  said = by_test (eqb (table_refusal t) 0) (λ e. formed (eqb-true _ _ e)) (λ e. other (eqb-false _ _ e) (refusal-numbers t))
    where
      formed : table_refusal t ≡ 0 → Said
      formed z =
          by_test (is_log log) (λ l. (inl (not-refused z l), λ n. absurd (n (not-refused z l)))) (λ l. said-refused 25 (inr (inr refl)) (verdict-log t log z l))

      other : (table_refusal t ≡ 0 → ⊥) → (table_refusal t ≡ 0) ⊎ ((4 ≤ table_refusal t) × (table_refusal t ≤ 12)) → Said
      other n (inl z) = absurd (n z)
      other n (inr h) = said-refused (table_refusal t) (inr (inl h)) (verdict-table t log n)

  judges : Judges t log
  judges =
      record {
        table-first = verdict-table t log;
        no-log = λ z. (no-log z, λ n. verdict-log t log z (no-log-false log n));
        each-call = each-call;
        all-agree = all-agree;
        number = said.0;
        zeros = said.1;
      }

pub judge-claim : JudgeClaim
judge-claim t log = judges t log

-- a refused value's answer is 0, 0, 0
plain-zeros : (t v : List ℕ) → ((plain_of t v).refusal ≡ 0 → ⊥) → plain_of t v ≡ not_resolved (plain_of t v).refusal
unfolding plain_of
plain-zeros t v n =
    by_test (eqb (number_of t v) 0) (λ q. absurd (n (ap (λ (r : Resolution). r.refusal) (plain-is ∙ ap by_number q ∙ refl))))
    (λ q. other (plain-is ∙ ap by_number q))
  where
    by_number : Bool → Resolution
    by_number b = cond b (answered t (uris_of v) (direct_signal t (uris_of v))) (not_resolved (number_of t v))

    plain-is : plain_of t v ≡ by_number (eqb (number_of t v) 0)
    plain-is = unless-number t v (answered t (uris_of v) (direct_signal t (uris_of v)))

    other : plain_of t v ≡ not_resolved (number_of t v) → plain_of t v ≡ not_resolved (plain_of t v).refusal
    other e = e ∙ ap not_resolved (sym (ap (λ (r : Resolution). r.refusal) e))

pub refused-claim : RefusedClaim
refused-claim t c n =
    let e = plain-zeros t c.value n in
    let s : (plain_of t c.value).signal ≡ 0 = ap (λ (r : Resolution). r.signal) e in
    let u : (plain_of t c.value).used ≡ 0 = ap (λ (r : Resolution). r.used) e in
    let x : (plain_of t c.value).skipped ≡ 0 = ap (λ (r : Resolution). r.skipped) e in
    (λ h. (h.signal ∙ s, h.used ∙ u, h.skipped ∙ x), λ h. record { signal = h.0 ∙ sym s; used = h.1 ∙ sym u; skipped = h.2 ∙ sym x })

-- a log without calls, and one without bytes
pub each_number : EachNumber
unfolding is_log end_from calls_from judged
each_number n (inl e) = (least, 0 ∷ 0 ∷ [], ap (λ (v : Verdict). v.refusal) (verdict-log least (0 ∷ 0 ∷ []) least-formed {b = true} refl) ∙ sym e)
each_number n (inr (inl h)) =
    let t = each-table n (inr h) in
    (t.0, [], ap (λ (v : Verdict). v.refusal) (verdict-table t.0 [] (λ z. omega (arith, t.1, z, h.0))) ∙ t.1)
each_number n (inr (inr e)) = (least, [], ap (λ (v : Verdict). v.refusal) (verdict-log least [] least-formed {b = false} refl) ∙ sym e)
