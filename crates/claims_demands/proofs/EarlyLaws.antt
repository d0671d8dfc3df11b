-- The early answer beside the plain resolver's.
use Prim.Native.Nat.{ℕ, ◌+◌}
use mathlib.Core.Path.{◌≡◌, refl, sym, ap, ◌∙◌, subst}
use mathlib.Core.Logic.{inl}
use mathlib.Core.Bool.{Bool, true, false, cond}
use mathlib.Core.Option.{Option, none, some}
use mathlib.Core.List.{List, [], ◌∷◌}
use native.Mathlib.Omega.{arith}
use lib.ListN.{length, length-map}
use lib.Dec.{eqb}
use borrow.Author.Tests.{eq-eqb, eqb-true, eqb-false}
use Rattle.value_reader.specs.Value.{refusal_of, uris_of}
use Rattle.theory_resolution.specs.Table.{Urn}
use Rattle.theory_resolution.specs.Direct.{used_count, skipped_count}
use Rattle.node_search.specs.Uses.{used_urn}
use Rattle.table_decode.specs.Tables.{table_refusal, category_names}
use Rattle.resolve_early.specs.Early.{number_of, refused as not_answered, early_of}
use Rattle.resolve_early.specs.declared.Early.{Early}
use Rattle.resolve_early.proofs.Claims.{zero_number, early-claim}
use Rattle.resolve_run.specs.declared.Resolution.{Resolution}
use Rattle.resolve_library.specs.Resolve.{taken_as, direct_signal, refused, answered, plain_of}
use Rattle.claims_demands.specs.Demands.{PlainNumber}
use Rattle.claims_demands.proofs.RefusalLaws.{plain-number}

-- each URI of a list is used or skipped
count-all : (l : List (Option Urn)) → used_count l + skipped_count l ≡ length l
count-all [] = refl
count-all (none ∷ l) = omega (arith, count-all l)
count-all (some u ∷ l) = omega (arith, count-all l)

module _ (t v : List ℕ) where
  pub plain-answer : refusal_of v ≡ 0 → table_refusal t ≡ 0 → plain_of t v ≡ answered t (uris_of v) (direct_signal t (uris_of v))
  unfolding plain_of
  plain-answer e z = simp (eq-eqb (refusal_of v) 0 e, eq-eqb (table_refusal t) 0 z)

  -- the full resolver is the plain one
  number_is : number_of t v ≡ (plain_of t v).refusal
  unfolding plain_of
  number_is = go (eqb (refusal_of v) 0) (eqb (table_refusal t) 0) refl
    where
      go : (a b : Bool) → eqb (table_refusal t) 0 ≡ b
          → cond a (table_refusal t) (refusal_of v)
          ≡ (cond a (cond b (answered t (uris_of v) (direct_signal t (uris_of v))) (refused (table_refusal t))) (refused (refusal_of v))).refusal
      go true true e = eqb-true (table_refusal t) 0 e
      go true false e = refl
      go false b e = refl

  pub all-counted : (plain_of t v).refusal ≡ 0 → (plain_of t v).used + (plain_of t v).skipped ≡ length (uris_of v)
  all-counted e =
      let z = zero_number t v (number_is ∙ e) in
      ap (λ (x : Resolution). x.used + x.skipped) (plain-answer z.0 z.1) ∙ count-all (taken_as t (uris_of v))
      ∙ length-map (uris_of v) (used_urn (category_names t))

  pub early-refused : ((early_of t v).refusal ≡ 0 → ⊥) → early_of t v ≡ not_answered (plain_of t v).refusal
  early-refused n = (early-claim t v).otherwise n ∙ ap not_answered number_is

  pub early-number : PlainNumber (early_of t v).refusal
  early-number = go (eqb (early_of t v).refusal 0) refl
    where
      go : (b : Bool) → eqb (early_of t v).refusal 0 ≡ b → PlainNumber (early_of t v).refusal
      go true e = inl (eqb-true (early_of t v).refusal 0 e)
      go false e = subst PlainNumber (sym (ap (λ (x : Early). x.refusal) (early-refused (eqb-false (early_of t v).refusal 0 e)))) (plain-number t v)

  pub early-signal : (plain_of t v).refusal ≡ 0 → ((early_of t v).refusal ≡ 0) × ((early_of t v).signal ≡ (plain_of t v).signal)
  early-signal e =
      let z = zero_number t v (number_is ∙ e) in
      let s = (early-claim t v).same-signal z.0 z.1 in
      (s.0, s.1 ∙ sym (ap (λ (x : Resolution). x.signal) (plain-answer z.0 z.1)))
