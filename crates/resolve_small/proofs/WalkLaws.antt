-- An image walked over a whole value, with a byte in each state for each of n categories.
use Prim.Native.Nat.{ℕ, min, ◌≤◌}
use mathlib.Core.Path.{◌≡◌, refl, sym, ap, ap₂, ◌∙◌}
use mathlib.Core.Bool.{Bool, true, false, cond}
use mathlib.Core.List.{List}
use lib.Dec.{eqb}
use borrow.Author.Tests.{eq-eqb}
use Rattle.base_numbers.specs.Numbers.{most_nodes, most_symbols}
use Rattle.base_numbers.specs.declared.refusal.Refusal.{Refusal}
use Rattle.base_numbers.specs.declared.refusal.Refusal.TheVariants.{ImageBadForm}
use Rattle.base_numbers.specs.Refusals.{refusal_number}
use Rattle.base_lists.proofs.Numbers.{min-le}
use Rattle.base_lists.proofs.Bools.{by_test}
use Rattle.value_reader.specs.Value.{refusal_of, uris_of}
use Rattle.theory_resolution.proofs.Claim.{run-used}
use Rattle.machine_image.specs.Image.{signal_in, target_in}
use Rattle.node_step.specs.StatusByte.{fits_by}
use Rattle.table_decode.specs.Tables.{table_refusal, table_of}
use Rattle.table_decode.specs.Decoded.{DecodedAs}
use Rattle.node_search.specs.declared.decoded.Decoded.{Decoded}
use Rattle.machine_symbols.specs.Listed.{SymbolsIn, triple_lists, symbols_of, index_from}
use Rattle.machine_symbols.proofs.SymbolLaws.{lists-indexed}
use Rattle.machine_symbols.specs.declared.Symbols.{Symbols}
use Rattle.machine_symbols.proofs.NumberRight.{number-right}
use Rattle.machine_check.specs.Checks.{form_by}
use Rattle.machine_library.proofs.TableRight.{table-symbols}
use Rattle.resolve_run.specs.Answers.{taken_as, refused, answered, unless_refused}
use Rattle.resolve_run.specs.declared.run.Walk.{Walk}
use Rattle.resolve_run.specs.declared.run.Current.TheVariants.{Walking}
use Rattle.resolve_run.specs.Run.{moved, signal_now, ended_from}
use Rattle.resolve_run.specs.declared.run.Current.{Current}
use Rattle.resolve_run.specs.declared.answer.Ended.{Ended}
use Rattle.resolve_run.proofs.FoldLaws.{Steps, holds-reads}
use Rattle.resolve_run.proofs.AnswerLaws.{refused-first, value-ends, end-answer}
use Rattle.resolve_small.specs.Resolve.{walked_over, resolved_over}
use native.Mathlib.Omega.{arith}
use Rattle.machine_image.specs.Refusals.{form_over}
use Rattle.machine_image.specs.Walk.{step_over}
use Rattle.table_decode.proofs.Accepting.{accepted}
use Rattle.machine_check.proofs.CheckRight.{form-over}
use Rattle.resolve_run.specs.declared.Resolution.{Resolution}

-- the answers by their tests
module _ (n : ℕ) (t im v : List ℕ) where
  pub over-table : (k : Refusal) → refusal_number k ≡ table_refusal t → refused (cond (eqb (refusal_of v) 0) (refusal_number k) (refusal_of v)) ≡ resolved_over n t im v
  unfolding resolved_over
  over-table k e = refused-first t v _ k e

  -- 15 comes after the value's and the table's numbers
  over-form : table_refusal t ≡ 0 → form_over n (table_of t) im ≡ false
      → refused (cond (eqb (refusal_of v) 0) (refusal_number ImageBadForm) (refusal_of v)) ≡ resolved_over n t im v
  unfolding resolved_over refusal_number
  over-form z e = by_test (eqb (refusal_of v) 0) (λ q. simp (q, eq-eqb (table_refusal t) 0 z, e)) (λ q. simp q)

-- the same number of categories, said otherwise
pub over-same : (t im v : List ℕ) {n k : ℕ} {r : Resolution} → r ≡ resolved_over n t im v → n ≡ k → r ≡ resolved_over k t im v
over-same t im v e q = e ∙ ap (λ n. resolved_over n t im v) q

-- a decoded table and its listed symbols
module _ (t : List ℕ) (d : Decoded) (means : DecodedAs t d) (n : ℕ) (within : n ≤ d.categories) {s : Symbols}
    (listed : s ≡ symbols_of (triple_lists d.category d.inner (min d.nodes most_nodes) (min d.categories 8))) where
  symbols-listed : SymbolsIn (table_of t) s.bytes s.count
  symbols-listed = table-symbols t d means s listed

  form-listed : (im : List ℕ) {f : Bool}
      → f ≡ form_by (fits_by d.rows d.parent d.inner d.category d.nodes) s.bytes s.count d.signals n im → f ≡ form_over n (table_of t) im
  form-listed im e =
      let held = means.holds in
      e
      ∙ form-over t d.category d.at d.len d.nodes (table_of t) held.nodes held.well-formed (accepted t means.refusal).rows
      d.rows d.parent d.signals held.numbers
      d.inner held.inner s.bytes s.count symbols-listed im n (omega (arith, within, held.categories))

  -- an image of wrong form
  pub unformed : (im v : List ℕ) {f : Bool}
      → f ≡ form_by (fits_by d.rows d.parent d.inner d.category d.nodes) s.bytes s.count d.signals n im → f ≡ false
      → refused (cond (eqb (refusal_of v) 0) (refusal_number ImageBadForm) (refusal_of v)) ≡ resolved_over n t im v
  unformed im v e q = over-form n t im v means.refusal (sym (form-listed im e) ∙ q)

-- an image of right form, walked from state 0
module _ (t : List ℕ) (d : Decoded) (means : DecodedAs t d) (w : Walk) (within : w.categories ≤ d.categories) {symbols : Symbols}
    (listed : symbols ≡ symbols_of (triple_lists d.category d.inner (min d.nodes most_nodes) (min d.categories 8)))
    (lent : (w.count ≡ symbols.count) × (w.symbols.now ≡ symbols.bytes) × (w.index.now ≡ symbols.index)) where
  abbrev n : ℕ
  n = w.categories

  abbrev im : List ℕ
  im = w.image.now

  few : min n 8 ≡ n
  few = sym (min-le n 8 (omega (arith, within, means.holds.categories, means.holds.numbers.few-cats)))

  walk-listed : SymbolsIn (table_of t) w.symbols.now w.count
  walk-listed = rw (lent.0, lent.1) (symbols-listed t d means n within listed)

  walk-indexed : w.index.now ≡ index_from w.symbols.now 0 (min w.count most_symbols)
  walk-indexed = rw (lent.0, lent.1, lent.2) (lists-indexed _ listed)

  walk_steps : Steps t (table_of t) d (holds-reads t (table_of t) d means.holds) (λ j. Unit) (step_over n (table_of t) im) (Walking w)
  unfolding moved
  walk_steps =
      let held = means.holds in
      record {
        moves = λ j u v x. ap₂ (λ a k. Walking w (target_in a im j k)) few
            (number-right t d.category d.at d.len d.nodes (table_of t) held.nodes d.rows d.parent d.signals
            held.numbers d.inner held.inner
            held.well-formed w.symbols.now w.count walk-listed w.index.now walk-indexed u);
        stays = λ j u v x. tt;
      }

  pub walked : (v : List ℕ) {e : Ended} → e ≡ ended_from t d (Walking w 0) v → {f : Bool}
      → f ≡ form_by (fits_by d.rows d.parent d.inner d.category d.nodes) symbols.bytes symbols.count d.signals n im → f ≡ true
      → e.answer ≡ resolved_over n t im v
  unfolding resolved_over signal_now
  walked v q formed right =
      end-answer t v _ _ means.refusal (value-ends t (table_of t) d (holds-reads t (table_of t) d means.holds) v (λ j. Unit)
      (step_over n (table_of t) im) (Walking w) walk_steps 0 tt refl refl q)
      ∙ ap₂ (λ a j. unless_refused t v (answered t (uris_of v) (signal_in a im j))) few (sym (run-used (step_over n (table_of t) im) 0 (taken_as t (uris_of v))))
      ∙ ap (λ b. unless_refused t v (cond b (answered t (uris_of v) (walked_over n t im (uris_of v))) (refused 15)))
      (sym (sym (form-listed t d means n within listed im formed) ∙ right))
