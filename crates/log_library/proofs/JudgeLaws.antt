-- The calls in turn, and the verdict.
use Prim.Native.Nat.{ℕ, suc, ◌+◌}
use mathlib.Core.Path.{◌≡◌, sym, ap, ap₂, ◌∙◌}
use mathlib.Core.Bool.{Bool, true, false, cond, ◌&&◌}
use mathlib.Core.List.{List}
use native.Mathlib.Omega.{arith}
use lib.ListN.{get_or, take, drop}
use lib.Dec.{eqb}
use borrow.Author.Tests.{eq-eqb, ne_eqb}
use Rattle.table_decode.specs.Tables.{table_refusal}
use Rattle.base_numbers.specs.declared.refusal.Refusal.{Refusal}
use Rattle.base_numbers.specs.Refusals.{refusal_number}
use Rattle.base_numbers.proofs.Refusals.{refusal-some}
use Rattle.resolve_run.specs.declared.Resolution.{Resolution}
use Rattle.resolve_library.specs.Resolve.{plain_of}
use Rattle.log_library.specs.Log.{word_at, call_at, after_call, calls_from, calls_of, is_log}
use Rattle.log_library.specs.Verdict.{same_answer, agrees, refused, all_agree, differs, judged, verdict_of}
use Rattle.log_library.specs.declared.Verdict.{Verdict}

-- the calls from a position on
module _ (t log : List ℕ) (n at k : ℕ) {v : Verdict} (inv : v ≡ judged t k (calls_from log at n)) where
  pub turn_end : n ≡ 0 → all_agree ≡ v
  unfolding calls_from judged
  turn_end z = sym (inv ∙ ap (λ (m : ℕ). judged t k (calls_from log at m)) z)

  -- one call, with its length, value and answer
  module _ (m : ℕ) (o : n ≡ suc m) {w : ℕ} (e : w ≡ word_at log at) {val : List ℕ} (f : val ≡ take w (drop (at + 2) log)) {r : Resolution}
      (g : r ≡ plain_of t val) {q : Bool}
      (h : q ≡ same_answer r (get_or log (at + 2 + w) 0) (get_or log (at + 2 + w + 1) 0) (get_or log (at + 2 + w + 2) 0)) where
    right_answer : r ≡ plain_of t (call_at log at).value
    right_answer = g ∙ ap (plain_of t) (f ∙ ap (λ (y : ℕ). take y (drop (at + 2) log)) e)

    same-is : q ≡ agrees t (call_at log at)
    same-is =
        h ∙ ap (λ (y : Resolution). same_answer y (get_or log (at + 2 + w) 0) (get_or log (at + 2 + w + 1) 0) (get_or log (at + 2 + w + 2) 0)) right_answer
        ∙ ap (λ (y : ℕ). same_answer (plain_of t (call_at log at).value) (get_or log (at + 2 + y) 0) (get_or log (at + 2 + y + 1) 0) (get_or log (at + 2 + y + 2) 0)) e

    by-test : v ≡ cond q (judged t (suc k) (calls_from log (after_call log at) m)) (differs k (plain_of t (call_at log at).value))
    unfolding calls_from judged
    by-test =
        inv ∙ ap (λ (y : ℕ). judged t k (calls_from log at y)) o
        ∙ ap (λ (y : Bool). cond y (judged t (suc k) (calls_from log (after_call log at) m)) (differs k (plain_of t (call_at log at).value))) (sym same-is)

    pub turn_on : q ≡ true → v ≡ judged t (k + 1) (calls_from log (at + 2 + w + 3) m)
    turn_on p =
        let one : suc k ≡ k + 1 = omega arith in
        by-test ∙ ap (λ (y : Bool). cond y (judged t (suc k) (calls_from log (after_call log at) m)) (differs k (plain_of t (call_at log at).value))) p
        ∙ ap₂ (λ (j : ℕ) (y : ℕ). judged t j (calls_from log (at + 2 + y + 3) m)) one (sym e)

    pub turn-wrong : q ≡ false → {x : Verdict} → x ≡ differs k r → x ≡ v
    turn-wrong p {x} d =
        d ∙ ap (differs k) right_answer
        ∙ sym (by-test ∙ ap (λ (y : Bool). cond y (judged t (suc k) (calls_from log (after_call log at) m)) (differs k (plain_of t (call_at log at).value))) p)

-- the verdict, by its tests
module _ (t log : List ℕ) where
  abbrev by_log : Bool → Verdict
  by_log b = cond b (judged t 0 (calls_of log)) (refused 25)

  pub verdict-table : (table_refusal t ≡ 0 → ⊥) → verdict_of t log ≡ refused (table_refusal t)
  unfolding verdict_of
  verdict-table n = ap (λ (b : Bool). cond b (by_log (is_log log)) (refused (table_refusal t))) (ne_eqb (table_refusal t) 0 n)

  pub verdict-log : table_refusal t ≡ 0 → {b : Bool} → is_log log ≡ b → verdict_of t log ≡ by_log b
  unfolding verdict_of
  verdict-log z e = ap (λ (b : Bool). cond b (by_log (is_log log)) (refused (table_refusal t))) (eq-eqb (table_refusal t) 0 z) ∙ ap by_log e

  pub refused-table : (k : Refusal) → refusal_number k ≡ table_refusal t → {r : Verdict} → r ≡ refused (refusal_number k) → r ≡ verdict_of t log
  refused-table k e f = f ∙ ap refused e ∙ sym (verdict-table (λ z. omega (arith, refusal-some k, e, z)))

  pub decoded-log : table_refusal t ≡ 0 → {b : Bool} → b ≡ is_log log → {c : Bool} → b ≡ c → {r : Verdict} → r ≡ by_log c → r ≡ verdict_of t log
  decoded-log z e f g = g ∙ sym (verdict-log z (sym e ∙ f))
