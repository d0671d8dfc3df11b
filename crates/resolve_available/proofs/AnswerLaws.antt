-- The answer among the available signals, by how the value ended.
use Prim.Native.Nat.{ℕ, min}
use mathlib.Core.Path.{◌≡◌, refl, sym, ap, ◌∙◌}
use mathlib.Core.Bool.{true, false, cond}
use mathlib.Core.List.{List}
use lib.ListN.{length}
use lib.Dec.{eqb}
use borrow.Author.Tests.{eq-eqb}
use Rattle.base_numbers.specs.Numbers.{most_signals}
use Rattle.base_numbers.specs.declared.refusal.Refusal.{Refusal}
use Rattle.base_numbers.specs.declared.refusal.Refusal.TheVariants.{UnknownAvailable}
use Rattle.base_numbers.specs.Refusals.{refusal_number}
use Rattle.base_lists.proofs.Numbers.{pos-of-ne, min-le}
use Rattle.base_lists.proofs.Bools.{by_test}
use Rattle.value_reader.specs.Value.{refusal_of, uris_of}
use Rattle.theory_resolution.specs.Direct.{State}
use Rattle.table_decode.specs.Tables.{table_refusal, table_of}
use Rattle.table_decode.specs.Decoded.{Holds}
use Rattle.node_search.specs.declared.decoded.Decoded.{Decoded}
use Rattle.resolve_run.specs.declared.Resolution.{Resolution}
use Rattle.resolve_run.specs.declared.run.Current.{Current}
use Rattle.resolve_run.specs.declared.answer.Ended.{Ended}
use Rattle.resolve_run.specs.Answers.{refused, answered}
use Rattle.resolve_run.specs.declared.run.Current.TheVariants.{Direct}
use Rattle.resolve_run.specs.Run.{start_now, signal_now, ended_from}
use Rattle.resolve_run.proofs.AnswerLaws.{End, value-refused, none-refused, refused-first}
use Rattle.resolve_run.proofs.DirectLaws.{shown}
use Rattle.resolve_available.specs.Available.{has_bit, known, available_signal, available_of}
use Rattle.resolve_available.specs.Rows.{rows_among, among}
use Rattle.resolve_available.proofs.RunRight.{last, last-right, run-right}
use Rattle.resolve_run.proofs.AnswerLaws as ends

-- at most 32 signals are those that there are
pub signals-few : (t : List ℕ) (d : Decoded) → Holds t (table_of t) d → min d.signals most_signals ≡ length (table_of t).signals
signals-few t d h = sym (min-le d.signals most_signals h.numbers.few-signals) ∙ sym h.numbers.all-signals

module _ (t : List ℕ) (set : ℕ) (v : List ℕ) where
  abbrev list : Resolution
  list = answered t (uris_of v) (available_signal t set (uris_of v))

  abbrev judged : Resolution
  judged = cond (known set (length (table_of t).signals)) list (refused 23)

  -- a refused table
  pub available-table : (k : Refusal) → refusal_number k ≡ table_refusal t
      → refused (cond (eqb (refusal_of v) 0) (refusal_number k) (refusal_of v)) ≡ available_of t set v
  unfolding available_of
  available-table k e = refused-first t v judged k e

  module _ (formed : table_refusal t ≡ 0) where
    -- a bit that is no signal's
    pub available-strange : known set (length (table_of t).signals) ≡ false
        → refused (cond (eqb (refusal_of v) 0) (refusal_number UnknownAvailable) (refusal_of v)) ≡ available_of t set v
    unfolding available_of refusal_number
    available-strange b =
        by_test (eqb (refusal_of v) 0)
        (λ q. simp (q, eq-eqb (table_refusal t) 0 formed, b))
        (λ q. simp q)

    -- the answer, by how the value ended
    module _ (d : Decoded) (h : Holds t (table_of t) d) (k : known set (length (table_of t).signals) ≡ true) where
      by_end : (e : Ended) → End t v (shown (table_of t) (last t d h (has_bit set) v)) e → e.answer ≡ available_of t set v
      unfolding signal_now available_of
      by_end e (ends.not_taken n a) = a ∙ value-refused t v judged refl (pos-of-ne n)
      by_end e (ends.taken z x a) =
          a ∙ ap (λ (st : State). answered t (uris_of v) st.signal) (last-right t d h (has_bit set) v)
          ∙ ap (λ b. cond b list (refused 23)) (sym k)
          ∙ none-refused t v judged z formed

      pub available-right : {x : Current} → x ≡ Direct start_now 0 → {a : Decoded} → a ≡ among (rows_among (has_bit set) d.rows) d
          → {e : Ended} → e ≡ ended_from t a x v → e.answer ≡ available_of t set v
      available-right {x} f q r = by_end _ (run-right t d h (has_bit set) v f (r ∙ ap (λ (b : Decoded). ended_from t b x v) q))
