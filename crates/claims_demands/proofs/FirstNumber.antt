-- The value's number comes first, then the table's, then the resolver's own.
use Prim.Native.Nat.{ℕ}
use mathlib.Core.Path.{◌≡◌, refl, sym, subst, ◌∙◌}
use mathlib.Core.Logic.{◌↔◌, inl, inr}
use mathlib.Core.Bool.{Bool, true, false, cond, true≢false}
use mathlib.Core.List.{List}
use native.Mathlib.Omega.{arith}
use lib.Dec.{eqb}
use borrow.Author.Tests.{eq-eqb, ne_eqb, eqb-true, eqb-false}
use Rattle.base_lists.proofs.Numbers.{pos-of-ne}
use Rattle.value_reader.specs.Value.{refusal_of, uris_of}
use Rattle.value_reader.specs.Grammar.{White}
use Rattle.value_reader.specs.Claims.{Given}
use Rattle.value_reader.proofs.Agree.{refused-exactly as value-exactly}
use Rattle.machine_image.specs.Refusals.{form_of}
use Rattle.table_decode.specs.Tables.{table_refusal, table_of}
use Rattle.table_decode.proofs.Exactly.{refused-exactly as table-exactly}
use Rattle.machine_library.proofs.FormRight.{form-to-right, right-to-form}
use Rattle.small_image.specs.Small.{small_form}
use Rattle.resolve_run.specs.declared.Resolution.{Resolution}
use Rattle.resolve_small.specs.Resolve.{walked_small, resolved_over}
use Rattle.resolve_small.proofs.FormLaws.{small-to, small_of_lem}
use Rattle.resolve_library.specs.Resolve.{direct_signal, walked_signal, refused, answered, unless_refused, plain_of}
use Rattle.claims_demands.specs.FirstNumber.{NumberGiven, of-value, of-table, own, FifteenUnless, FirstNumber}

-- an answer where neither value nor table is refused, with the numbers that it can have
module _ (t v : List ℕ) (r : Resolution) (Own : ℕ → Type 0) (due : (n : ℕ) → r.refusal ≡ n ↔ Own n) where
  no_value : refusal_of v ≡ 0 → Given White v 0
  no_value e = (value-exactly v 0).0 e

  is-given : NumberGiven t v Own (unless_refused t v r).refusal
  is-given = go (eqb (refusal_of v) 0) refl (eqb (table_refusal t) 0) refl
    where
      go : (a : Bool) → eqb (refusal_of v) 0 ≡ a → (b : Bool) → eqb (table_refusal t) 0 ≡ b
          → NumberGiven t v Own (cond a (cond b r (refused (table_refusal t))) (refused (refusal_of v))).refusal
      go true e true f = own (no_value (eqb-true (refusal_of v) 0 e)) ((table-exactly t 0).0 (eqb-true (table_refusal t) 0 f)) ((due r.refusal).0 refl)
      go true e false f =
          of-table (pos-of-ne (eqb-false (table_refusal t) 0 f)) (no_value (eqb-true (refusal_of v) 0 e)) ((table-exactly t (table_refusal t)).0 refl)
      go false e b f = of-value (pos-of-ne (eqb-false (refusal_of v) 0 e)) ((value-exactly v (refusal_of v)).0 refl)

  given_is : (n : ℕ) → NumberGiven t v Own n → (unless_refused t v r).refusal ≡ n
  given_is n (of-value h g) =
      let e : refusal_of v ≡ n = (value-exactly v n).1 g in
      let z = ne_eqb (refusal_of v) 0 (λ i. omega arith) in
      rw z e
  given_is n (of-table h g s) =
      let e = eq-eqb (refusal_of v) 0 ((value-exactly v 0).1 g) in
      let i : table_refusal t ≡ n = (table-exactly t n).1 s in
      let z = ne_eqb (table_refusal t) 0 (λ j. omega arith) in
      rw (e, z) i
  given_is n (own g s o) =
      let e = eq-eqb (refusal_of v) 0 ((value-exactly v 0).1 g) in
      let z = eq-eqb (table_refusal t) 0 ((table-exactly t 0).1 s) in
      rw (e, z) ((due n).1 o)

  both_ways : (n : ℕ) → (unless_refused t v r).refusal ≡ n ↔ NumberGiven t v Own n
  both_ways n = (λ e. subst (NumberGiven t v Own) e is-given, given_is n)

-- 15 by a test of the image
by_form : (form : Bool) (walked : Resolution) (Right : Type 0) → walked.refusal ≡ 0 → (form ≡ true → Right) → (Right → form ≡ true)
    → (n : ℕ) → (cond form walked (refused 15)).refusal ≡ n ↔ FifteenUnless Right n
by_form true walked Right z to of n = (λ e. inl (sym e ∙ z, to refl), back)
  where
    back : FifteenUnless Right n → walked.refusal ≡ n
    back (inl o) = z ∙ sym o.0
    back (inr o) = absurd (o.1 (to refl))
by_form false walked Right z to of n = (λ e. inr (sym e, λ x. true≢false (sym (of x))), back)
  where
    back : FifteenUnless Right n → 15 ≡ n
    back (inl o) = absurd (true≢false (sym (of o.1)))
    back (inr o) = sym o.0

pub first-number : (t : List ℕ) → FirstNumber t
unfolding plain_of resolved_over
first-number t =
    record {
      plain = λ v. both_ways t v (answered t (uris_of v) (direct_signal t (uris_of v))) (λ k. k ≡ 0) (λ n. (sym, sym));
      machine = λ im v. both_ways t v _ _
          (by_form (form_of (table_of t) im) (answered t (uris_of v) (walked_signal t im (uris_of v))) _ refl (form-to-right (table_of t) im)
          (right-to-form (table_of t) im));
      small = λ small v. both_ways t v _ _
          (by_form (small_form (table_of t) small) (answered t (uris_of v) (walked_small t small (uris_of v))) _ refl
          (small-to (table_of t) small) (small_of_lem (table_of t) small));
    }
