-- The answer among the available signals beside the plain resolver's, proved.
use Prim.Native.Nat.{ℕ}
use mathlib.Core.Path.{◌≡◌, refl, sym, ap, ◌∙◌, subst}
use mathlib.Core.Logic.{inl, inr}
use mathlib.Core.Bool.{Bool, true, false, cond, true≢false}
use mathlib.Core.List.{List}
use lib.Dec.{eqb}
use lib.ListN.{length}
use native.Mathlib.Omega.{arith}
use borrow.Author.Tests.{eq-eqb, ne_eqb, eqb-true, eqb-false}
use Rattle.base_lists.proofs.Bools.{by_test}
use Rattle.value_reader.specs.Value.{uris_of}
use Rattle.table_decode.specs.Tables.{table_of}
use Rattle.resolve_run.specs.Answers.{number_of}
use Rattle.resolve_run.proofs.AnswerLaws.{unless-number}
use Rattle.resolve_available.specs.Available.{known, available_signal, available_of}
use Rattle.resolve_available.specs.Claims.{Strange, Everyone}
use Rattle.resolve_available.proofs.BitLaws.{strange-bit, bit-strange}
use Rattle.resolve_available.proofs.Claims.{answer-claim}
use Rattle.resolve_run.specs.declared.Resolution.{Resolution}
use Rattle.resolve_library.specs.Resolve.{direct_signal, refused, answered, plain_of}
use Rattle.claims_demands.specs.BesidePlain.{BesidePlain}
use Rattle.claims_demands.specs.Demands.{PlainNumber, AvailableNumber}
use Rattle.claims_demands.proofs.RefusalLaws.{plain-number}

module _ (t v : List ℕ) where
  abbrev direct : Resolution
  direct = answered t (uris_of v) (direct_signal t (uris_of v))

  -- the plain resolver, by its number
  plain-is : plain_of t v ≡ cond (eqb (number_of t v) 0) direct (refused (number_of t v))
  unfolding plain_of
  plain-is = unless-number t v direct

  plain-refused : (number_of t v ≡ 0 → ⊥) → plain_of t v ≡ refused (number_of t v)
  plain-refused n = plain-is ∙ ap (λ b. cond b direct (refused (number_of t v))) (ne_eqb (number_of t v) 0 n)

  plain-given : number_of t v ≡ 0 → plain_of t v ≡ direct
  plain-given e = plain-is ∙ ap (λ b. cond b direct (refused (number_of t v))) (eq-eqb (number_of t v) 0 e)

  -- so the number is 0 exactly where it refuses nothing
  none : (plain_of t v).refusal ≡ 0 → number_of t v ≡ 0
  none e =
      by_test (eqb (number_of t v) 0) (λ q. eqb-true (number_of t v) 0 q)
      (λ q. sym (ap (λ (r : Resolution). r.refusal) (plain-refused (eqb-false (number_of t v) 0 q))) ∙ e)

  some : ((plain_of t v).refusal ≡ 0 → ⊥) → number_of t v ≡ 0 → ⊥
  some n e = n (ap (λ (r : Resolution). r.refusal) (plain-given e))

  module _ (set : ℕ) where
    alike : (number_of t v ≡ 0 → ⊥) → available_of t set v ≡ plain_of t v
    alike n = (answer-claim t set v).first n ∙ sym (plain-refused n)

    everyone : (Strange t set → ⊥) → Everyone t set → available_of t set v ≡ plain_of t v
    everyone n h =
        by_test (eqb (number_of t v) 0)
        (λ q. let e = eqb-true (number_of t v) 0 q in (answer-claim t set v).everyone e n h ∙ sym (plain-given e))
        (λ q. alike (eqb-false (number_of t v) 0 q))

    pub beside-plain : BesidePlain t set v
    beside-plain =
        record {
          first = λ n. alike (some n);
          strange = λ e. (answer-claim t set v).strange (none e);
          counted = λ e n.
              let a = (answer-claim t set v).given (none e) n in
              let p = plain-given (none e) in (
                ap (λ (r : Resolution). r.refusal) a,
                ap (λ (r : Resolution). r.used) a ∙ sym (ap (λ (r : Resolution). r.used) p),
                ap (λ (r : Resolution). r.skipped) a ∙ sym (ap (λ (r : Resolution). r.skipped) p),
              );
          everyone = everyone;
        }

-- what is answered, by its number
module _ (t v : List ℕ) (set : ℕ) where
  pub data Ends : Type 0 where
    as_plain : (number_of t v ≡ 0 → ⊥) → available_of t set v ≡ plain_of t v → Ends
    with-23 : available_of t set v ≡ refused 23 → Ends
    given : available_of t set v ≡ answered t (uris_of v) (available_signal t set (uris_of v)) → Ends

  ends : Ends
  ends = go (eqb (number_of t v) 0) refl
    where
      signals : ℕ
      signals = length (table_of t).signals

      go : (b : Bool) → eqb (number_of t v) 0 ≡ b → Ends
      go false q = as_plain (eqb-false (number_of t v) 0 q) (alike t v set (eqb-false (number_of t v) 0 q))
      go true q =
          let e = eqb-true (number_of t v) 0 q in
          by_test (known set signals)
          (λ k. given ((answer-claim t set v).given e (λ w. absurd (true≢false (sym k ∙ bit-strange set signals w.0 w.1 w.2)))))
          (λ k. with-23 (((answer-claim t set v).strange e).1 (strange-bit set signals k)))

  pub available-number : AvailableNumber (available_of t set v).refusal
  available-number = go ends
    where
      of_plain : PlainNumber (plain_of t v).refusal → AvailableNumber (plain_of t v).refusal
      of_plain (inl e) = inl e
      of_plain (inr h) = inr (inl h)

      go : Ends → AvailableNumber (available_of t set v).refusal
      go (as_plain n e) = subst (λ (r : Resolution). AvailableNumber r.refusal) (sym e) (of_plain (plain-number t v))
      go (with-23 e) = inr (inr (ap (λ (r : Resolution). r.refusal) e))
      go (given e) = inl (ap (λ (r : Resolution). r.refusal) e)

  pub available-refused : ((available_of t set v).refusal ≡ 0 → ⊥) → available_of t set v ≡ refused (available_of t set v).refusal
  available-refused n = go ends
    where
      same : (k : ℕ) → available_of t set v ≡ refused k → available_of t set v ≡ refused (available_of t set v).refusal
      same k e = e ∙ ap (λ (r : Resolution). refused r.refusal) (sym e)

      go : Ends → available_of t set v ≡ refused (available_of t set v).refusal
      go (as_plain m e) = same (number_of t v) (e ∙ plain-refused t v m)
      go (with-23 e) = same 23 e
      go (given e) = absurd (n (ap (λ (r : Resolution). r.refusal) e))

  pub available-signal : (available_of t set v).refusal ≡ 0 → (available_of t set v).signal ≡ available_signal t set (uris_of v)
  available-signal z = go ends
    where
      go : Ends → (available_of t set v).signal ≡ available_signal t set (uris_of v)
      go (as_plain m e) = absurd (m (sym (ap (λ (r : Resolution). r.refusal) (e ∙ plain-refused t v m)) ∙ z))
      go (with-23 e) = let q : ◌≡◌ {A = ℕ} 23 0 = sym (ap (λ (r : Resolution). r.refusal) e) ∙ z in absurd (omega arith)
      go (given e) = ap (λ (r : Resolution). r.signal) e
