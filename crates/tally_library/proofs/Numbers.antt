-- The numbers that a value on a tally is answered with, and the 12 counts that it asks for.
use mathlib.Core.Path.{◌≡◌, refl, sym, ap, ◌∙◌, subst}
use mathlib.Core.Logic.{inl, inr}
use Prim.Native.Nat.{ℕ, zero, suc, ◌+◌, ◌-◌, ◌≤◌, ◌<◌}
use native.Mathlib.Omega.{arith}
use mathlib.Core.Bool.{Bool, true, false, not, cond}
use mathlib.Core.List.{List, [], ◌∷◌}
use lib.Dec.{ltb, leb, eqb}
use lib.ListN.{length, replicate, length-replicate}
use borrow.Author.Tests.{le-ltb, le-leb, eqb-true, eqb-false, leb-true, leb-false}
use Rattle.base_numbers.specs.Numbers.{most_nodes}
use Rattle.base_lists.proofs.Lists.{get_d-all}
use Rattle.base_lists.proofs.Bools.{by_test}
use Rattle.value_reader.specs.Value.{refusal_of, uris_of}
use Rattle.value_reader.proofs.Agree.{unique, refused-exactly, accepted-list}
use Rattle.value_reader.proofs.Examples.{each_number as each-value}
use Rattle.theory_resolution.proofs.Meaning.{uris-law}
use Rattle.table_decode.specs.Tables.{table_refusal}
use Rattle.table_decode.specs.Examples.{least}
use Rattle.table_decode.proofs.Examples.{least-formed, each_number as each-table}
use Rattle.resolve_run.specs.declared.Resolution.{Resolution}
use Rattle.resolve_run.proofs.AnswerLaws.{value-refused, table-refused, none-refused}
use Rattle.resolve_library.specs.Resolve.{taken_as, direct_signal, refused, answered, plain_of}
use Rattle.tally_library.specs.declared.Tally.{Tally}
use Rattle.tally_library.specs.Tally.{none, most, accepted, plus, fits, needed, too_few, full, gives20, answer_of}
use Rattle.tally_library.specs.Numbers.{TallyNumber, TallyNumbers, EachTallyNumber, TwelveCounts}
use Rattle.tally_library.proofs.PlainLaws.{plain-few}
use Rattle.tally_library.proofs.JudgeLaws.{few-counts}
use Rattle.tally_library.proofs.TallyLaws.{full-accepted, full-refused, twenty, plainly, gives-few, gives-full}

-- no other numbers
pub tally-numbers : TallyNumbers
unfolding answer_of
tally-numbers t l c v = go (gives20 t l c v)
  where
    go : (b : Bool) → TallyNumber (cond b (refused 20) (plain_of t v)).refusal
    go true = inr refl
    go false = inl (plain-few t v)

-- an accepted value has at most 64 entries, used or skipped
few-uris : (v : List ℕ) → refusal_of v ≡ 0 → length (uris_of v) ≤ most_nodes
few-uris v e =
    let g = (refused-exactly v 0).0 e in
    subst (λ (us : List (List ℕ)). length us ≤ most_nodes) (unique v g.1 (uris_of v) g.2 (accepted-list v e)) g.3

taken-length : (t : List ℕ) (us : List (List ℕ)) → length (taken_as t us) ≡ length us
taken-length t [] = refl
taken-length t (u ∷ us) = ap suc (taken-length t us)

few-entries : (t v : List ℕ) → (plain_of t v).used + (plain_of t v).skipped ≤ most_nodes
unfolding plain_of
few-entries t v = value (eqb (refusal_of v) 0) refl
  where
    Few : Resolution → Type 0
    Few r = r.used + r.skipped ≤ most_nodes

    table : refusal_of v ≡ 0 → (b : Bool) → Few (cond b (answered t (uris_of v) (direct_signal t (uris_of v))) (refused (table_refusal t)))
    table e true =
        let n = taken-length t (uris_of v) in
        omega (arith, uris-law.all-counted (taken_as t (uris_of v)), few-uris v e)
    table e false = omega arith

    value : (b : Bool) → eqb (refusal_of v) 0 ≡ b
        → Few (cond b (cond (eqb (table_refusal t) 0) (answered t (uris_of v) (direct_signal t (uris_of v))) (refused (table_refusal t))) (refused (refusal_of v)))
    value true q = table (eqb-true (refusal_of v) 0 q) (eqb (table_refusal t) 0)
    value false q = omega arith

-- a cleared tally with a record for each signal and 12 counts
module _ (t v : List ℕ) where
  abbrev l : List Tally
  l = replicate (needed t) none

  abbrev c : List ℕ
  c = replicate 12 0

  abbrev p : Resolution
  p = plain_of t v

  enough : too_few t (length l) (length c) ≡ false
  unfolding too_few
  enough =
      let a = length-replicate (needed t) none in
      simp (le-ltb (length l) (needed t) (omega arith))

  one-fits : fits (plus none p) ≡ true
  unfolding fits
  one-fits =
      let h = few-entries t v in
      simp (le-leb (0 + p.used) most (omega arith), le-leb (0 + p.skipped) most (omega arith))

  not_full : full l c p ≡ false
  not_full =
      by_test (accepted p)
      (λ e. full-accepted l c p (eqb-true p.refusal 0 e) ∙ ap (λ (x : Tally). not (fits (plus x p)))
      (get_d-all (needed t) p.signal none) ∙ ap not one-fits)
      (λ e. full-refused l c p (eqb-false p.refusal 0 e) ∙ ap (λ (n : ℕ). ltb most (n + 1)) (get_d-all 12 (p.refusal - 1) 0))

  plain-answer : answer_of t l c v ≡ plain_of t v
  plain-answer = sym (plainly t l c v (gives-full t l c v enough ∙ not_full)).0

pub twelve-counts : TwelveCounts
twelve-counts = record {
  eleven = λ t l c v h. sym (twenty t l c v (gives-few t l c v (few-counts t (length l) (length c) (omega arith)))).0;
  twelve = plain-answer;
}

-- each number of the plain resolver
value : (v : List ℕ) × (refusal_of v ≡ 0)
value = each-value 0 (omega arith)

plain-each : (n : ℕ) → n ≤ 12 → (t v : List ℕ) × ((plain_of t v).refusal ≡ n)
unfolding plain_of
plain-each zero h = (
  least,
  value.0,
  sym (ap (λ (x : Resolution). x.refusal)
      (none-refused least value.0 (answered least (uris_of value.0) (direct_signal least (uris_of value.0))) value.1 least-formed)),
)
plain-each (suc n) h = by_test (leb (suc n) 3) (λ e. of-value (leb-true (suc n) 3 e)) (λ e. of-table (leb-false (suc n) 3 e))
  where
    of-value : suc n ≤ 3 → (t v : List ℕ) × ((plain_of t v).refusal ≡ suc n)
    of-value few =
        let v = each-value (suc n) few in (
          least,
          v.0,
          sym (ap (λ (x : Resolution). x.refusal)
              (value-refused least v.0 (answered least (uris_of v.0) (direct_signal least (uris_of v.0))) v.1 (omega arith))),
        )

    of-table : 3 < suc n → (t v : List ℕ) × ((plain_of t v).refusal ≡ suc n)
    of-table more =
        let t = each-table (suc n) (inr (omega arith, h)) in
        let e = table-refused t.0 value.0 (answered t.0 (uris_of value.0) (direct_signal t.0 (uris_of value.0))) value.1
        (λ z. omega (arith, t.1, z)) in
        (t.0, value.0, sym (ap (λ (x : Resolution). x.refusal) e) ∙ t.1)

pub each-tally-number : EachTallyNumber
each-tally-number n (inl h) =
    let w = plain-each n h in
    (w.0, replicate (needed w.0) none, replicate 12 0, w.1, ap (λ (x : Resolution). x.refusal) (plain-answer w.0 w.1) ∙ w.2)
each-tally-number n (inr e) = (
  least,
  replicate 0 none,
  replicate 0 0,
  value.0,
  ap (λ (x : Resolution). x.refusal) (twelve-counts.eleven least (replicate 0 none) (replicate 0 0) value.0 (omega arith)) ∙ sym e,
)
