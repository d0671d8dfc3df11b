-- The answer, from the tests that lead to it.
use Prim.Native.Nat.{ℕ, ◌≤◌, ◌<◌}
use mathlib.Core.Path.{◌≡◌, refl, sym, ap, ap₂, ◌∙◌}
use mathlib.Core.Bool.{Bool, true, false, cond, ◌&&◌}
use mathlib.Core.Option.{Option}
use mathlib.Core.List.{List}
use lib.Dec.{eqb, leb}
use lib.ListN.{length}
use borrow.Author.Tests.{eq-eqb, ne_eqb, le-leb, lt-leb, eqb-true}
use native.Mathlib.Omega.{arith}
use Rattle.std.specs.Prelude as found
use Rattle.base_numbers.specs.declared.refusal.Refusal.{Refusal}
use Rattle.base_numbers.specs.Refusals.{refusal_number}
use Rattle.base_numbers.proofs.Refusals.{refusal-some}
use Rattle.base_lists.proofs.Bools.{by_test}
use Rattle.base_numbers.specs.Numbers.{most_value_bytes}
use Rattle.value_reader.specs.Value.{refusal_of}
use Rattle.value_reader.proofs.ValueLaws.{refusal-long}
use Rattle.theory_resolution.specs.Table.{Urn}
use Rattle.theory_resolution.specs.Settled.{needed}
use Rattle.table_decode.specs.Tables.{table_refusal, table_of}
use Rattle.table_decode.specs.Decoded.{DecodedAs}
use Rattle.node_search.specs.declared.decoded.Decoded.{Decoded}
use Rattle.resolve_early.specs.FirstEntries.{uris_in}
use Rattle.resolve_early.specs.Early.{taken_as, number_of, refused, reached, enough, answer_for, read_of, early_of}
use Rattle.resolve_early.specs.Run.{run_from}
use Rattle.resolve_early.specs.declared.Early.{Early}
use Rattle.resolve_early.specs.declared.run.Reached.{Reached}
use Rattle.resolve_early.proofs.RunRight.{run-right}

module _ (t v : List ℕ) where
  abbrev answer : Early
  answer = answer_for (table_of t) (taken_as t (uris_in v (read_of v))) (read_of v).ended (number_of t v)

  pub early-refused : (b : Bool) → leb (length v) most_value_bytes && eqb (table_refusal t) 0 ≡ b → b ≡ false → refused (number_of t v) ≡ early_of t v
  unfolding early_of
  early-refused b e f = sym (ap (λ z. cond z answer (refused (number_of t v))) (e ∙ f))

  -- over 4,096 bytes
  pub early-long : most_value_bytes < length v → refused 1 ≡ early_of t v
  early-long h =
      let one = refusal-long v h in
      let n : number_of t v ≡ 1 = ap (λ k. cond (eqb k 0) (table_refusal t) k) one in
      ap refused (sym n) ∙ early-refused false (ap (λ b. b && eqb (table_refusal t) 0) (lt-leb (length v) most_value_bytes h)) refl

  by-number : {k : ℕ} → k ≡ table_refusal t → (k ≡ 0 → ⊥) → refused (cond (eqb (refusal_of v) 0) k (refusal_of v)) ≡ early_of t v
  by-number {k} e n =
      ap (λ z. refused (cond (eqb (refusal_of v) 0) z (refusal_of v))) e
      ∙ early-refused (leb (length v) most_value_bytes && eqb (table_refusal t) 0) refl
      (ap (λ b. leb (length v) most_value_bytes && b) (ne_eqb (table_refusal t) 0 (λ z. n (e ∙ z))) ∙ and_no (leb (length v) most_value_bytes))
    where
      and_no : (b : Bool) → b && false ≡ false
      and_no true = refl
      and_no false = refl

  pub early-table : (k : Refusal) → refusal_number k ≡ table_refusal t → refused (cond (eqb (refusal_of v) 0) (refusal_number k) (refusal_of v)) ≡ early_of t v
  early-table k e = by-number e (λ z. omega (arith, refusal-some k, z))

  pub early-read : length v ≤ most_value_bytes → table_refusal t ≡ 0 → early_of t v ≡ answer
  unfolding early_of
  early-read h e = ap (λ z. cond z answer (refused (number_of t v))) (ap₂ ◌&&◌ (le-leb (length v) most_value_bytes h) (eq-eqb (table_refusal t) 0 e))

  -- the answer by what the run reached
  abbrev by_reached : found.Option Reached → Early
  by_reached (found.Some x) = record { refusal = 0; signal = x.signal; entries = x.entries }
  by_reached found.None = refused (number_of t v)

  by-enough : (b : Bool) (x : Reached) → by_reached (cond b (found.Some x) found.None) ≡ cond b (by_reached (found.Some x)) (refused (number_of t v))
  by-enough true x = refl
  by-enough false x = refl

  module _ (d : Decoded) (m : DecodedAs t d) (short : length v ≤ most_value_bytes) {r : found.Option Reached}
      (is : r ≡ run_from t d v (record { signal = 0; statuses = 0 }) 0 0) where
    abbrev uris : List (Option Urn)
    uris = taken_as t (uris_in v (read_of v))

    -- what the run reached is the answer
    early-is : by_reached r ≡ early_of t v
    unfolding run_from
    early-is =
        ap by_reached (is ∙ run-right t d m.holds v (read_of v))
        ∙ by-enough (enough (table_of t) uris (read_of v).ended) (record { signal = (reached (table_of t) uris).signal; entries = needed (table_of t) uris })
        ∙ sym (early-read short m.refusal)

    pub early-enough : {x : Reached} → r ≡ found.Some x → record { refusal = 0; signal = x.signal; entries = x.entries } ≡ early_of t v
    early-enough e = sym (ap by_reached e) ∙ early-is

    pub early-else : r ≡ found.None → refused (refusal_of v) ≡ early_of t v
    early-else e = ap refused own ∙ sym (ap by_reached e) ∙ early-is
      where
        own : refusal_of v ≡ number_of t v
        own =
            by_test (eqb (refusal_of v) 0)
            (λ q. eqb-true (refusal_of v) 0 q ∙ sym (ap (λ b. cond b (table_refusal t) (refusal_of v)) q ∙ m.refusal))
            (λ q. sym (ap (λ b. cond b (table_refusal t) (refusal_of v)) q))
