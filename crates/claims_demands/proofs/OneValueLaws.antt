-- What one value does, by the number that it is answered with.
use Prim.Native.Nat.{ℕ, ◌≤◌}
use mathlib.Core.Path.{◌≡◌, refl, sym, ap, ◌∙◌}
use mathlib.Core.Logic.{inl, inr}
use mathlib.Core.Bool.{Bool, true, false, cond}
use mathlib.Core.List.{List}
use lib.Dec.{eqb}
use borrow.Author.Tests.{eqb-true, eqb-false}
use native.Mathlib.Omega.{arith}
use Rattle.value_reader.specs.Value.{refusal_of, uris_of}
use Rattle.resolve_record.specs.declared.Carried.{Carried}
use Rattle.resolve_record.specs.Record.{carried_fits, counted}
use Rattle.table_decode.specs.Tables.{table_refusal, table_of}
use Rattle.table_decode.proofs.RefusalNumbers.{refusal-numbers}
use Rattle.resolve_library.specs.declared.Fed.{Fed}
use Rattle.resolve_library.specs.Resolve.{refused, answered}
use Rattle.claims_demands.specs.Demands.{ValueNumber, TableNumber, FeedNumber}
use Rattle.resolve_library.specs.Feed.{unchanged, only_counted, goes_on, read_from, feed_of}
use Rattle.claims_demands.specs.Feeding.{OneValue}
use Rattle.claims_demands.proofs.RefusalLaws.{value-number}
use Rattle.resolve_library.proofs.ReadLaws.{feed-table, feed-unfit, feed-full, feed-read}

-- every way that feeding a value can end
data Ends (t : List ℕ) (r : Carried) (v : List ℕ) (f : Fed) : Type 0 where
  by-table : (table_refusal t ≡ 0 → ⊥) → f ≡ unchanged (table_refusal t) r → Ends t r v f
  by-record : f ≡ unchanged 28 r → Ends t r v f
  too_many : f ≡ unchanged 19 r → Ends t r v f
  by_value : (refusal_of v ≡ 0 → ⊥) → f ≡ only_counted (refusal_of v) r → Ends t r v f
  on : f ≡ goes_on t r v → Ends t r v f

module _ (t : List ℕ) (r : Carried) (v : List ℕ) where
  reads : (f : Fed) → f ≡ read_from t r v → Ends t r v f
  reads f e = go (eqb (refusal_of v) 0) refl
    where
      go : (b : Bool) → eqb (refusal_of v) 0 ≡ b → Ends t r v f
      go true q = on (e ∙ ap (λ (b : Bool). cond b (goes_on t r v) (only_counted (refusal_of v) r)) q)
      go false q = by_value (eqb-false (refusal_of v) 0 q) (e ∙ ap (λ (b : Bool). cond b (goes_on t r v) (only_counted (refusal_of v) r)) q)

  ends : Ends t r v (feed_of t r v)
  ends = table (eqb (table_refusal t) 0) refl
    where
      values : table_refusal t ≡ 0 → carried_fits (table_of t) r ≡ true → (b : Bool) → eqb r.values 16 ≡ b → Ends t r v (feed_of t r v)
      values z f true q = too_many (sym (feed-full t r v z f (eqb-true r.values 16 q)))
      values z f false q = reads (feed_of t r v) (sym (feed-read t r v z f (eqb-false r.values 16 q)))

      fits : table_refusal t ≡ 0 → (b : Bool) → carried_fits (table_of t) r ≡ b → Ends t r v (feed_of t r v)
      fits z true f = values z f (eqb r.values 16) refl
      fits z false f = by-record (sym (feed-unfit t r v z f))

      table : (b : Bool) → eqb (table_refusal t) 0 ≡ b → Ends t r v (feed_of t r v)
      table true q = fits (eqb-true (table_refusal t) 0 q) (carried_fits (table_of t) r) refl
      table false q = let n = eqb-false (table_refusal t) 0 q in by-table n (sym (feed-table t r v refl n))

  table-due : (table_refusal t ≡ 0 → ⊥) → TableNumber (table_refusal t) → (4 ≤ table_refusal t) × (table_refusal t ≤ 12)
  table-due n (inl z) = absurd (n z)
  table-due n (inr h) = h

  value-due : (refusal_of v ≡ 0 → ⊥) → ValueNumber (refusal_of v) → (1 ≤ refusal_of v) × (refusal_of v ≤ 3)
  value-due n (inl z) = absurd (n z)
  value-due n (inr h) = h

  module _ (f : Fed) where
    -- the numbers that there are
    number_of : Ends t r v f → FeedNumber f.answer.refusal
    number_of (by-table n e) =
        let h = table-due n (refusal-numbers t) in
        inr (inl (omega (arith, ap (λ (x : Fed). x.answer.refusal) e, h.0), omega (arith, ap (λ (x : Fed). x.answer.refusal) e, h.1)))
    number_of (by-record e) = inr (inr (inr (ap (λ (x : Fed). x.answer.refusal) e)))
    number_of (too_many e) = inr (inr (inl (ap (λ (x : Fed). x.answer.refusal) e)))
    number_of (by_value n e) =
        let h = value-due n (value-number v) in
        inr (inl (omega (arith, ap (λ (x : Fed). x.answer.refusal) e, h.0), omega (arith, ap (λ (x : Fed). x.answer.refusal) e, h.1)))
    number_of (on e) = inl (ap (λ (x : Fed). x.answer.refusal) e)

    accepted-of : Ends t r v f → f.answer.refusal ≡ 0 → f.answer ≡ answered t (uris_of v) f.carried.signal
    accepted-of (by-table n e) z = absurd (n (sym (ap (λ (x : Fed). x.answer.refusal) e) ∙ z))
    accepted-of (by-record e) z = absurd (omega (arith, ap (λ (x : Fed). x.answer.refusal) e, z))
    accepted-of (too_many e) z = absurd (omega (arith, ap (λ (x : Fed). x.answer.refusal) e, z))
    accepted-of (by_value n e) z = absurd (n (sym (ap (λ (x : Fed). x.answer.refusal) e) ∙ z))
    accepted-of (on e) z = ap (λ (x : Fed). x.answer) e ∙ ap (λ (s : ℕ). answered t (uris_of v) s) (sym (ap (λ (x : Fed). x.carried.signal) e))

    zeros_of : Ends t r v f → (f.answer.refusal ≡ 0 → ⊥) → f.answer ≡ refused f.answer.refusal
    zeros_of (by-table n e) z = ap (λ (x : Fed). x.answer) e ∙ ap refused (sym (ap (λ (x : Fed). x.answer.refusal) e))
    zeros_of (by-record e) z = ap (λ (x : Fed). x.answer) e ∙ ap refused (sym (ap (λ (x : Fed). x.answer.refusal) e))
    zeros_of (too_many e) z = ap (λ (x : Fed). x.answer) e ∙ ap refused (sym (ap (λ (x : Fed). x.answer.refusal) e))
    zeros_of (by_value n e) z = ap (λ (x : Fed). x.answer) e ∙ ap refused (sym (ap (λ (x : Fed). x.answer.refusal) e))
    zeros_of (on e) z = absurd (z (ap (λ (x : Fed). x.answer.refusal) e))

    counted_of : Ends t r v f → 1 ≤ f.answer.refusal → f.answer.refusal ≤ 3 → f.carried ≡ counted r
    counted_of (by-table n e) h k = absurd (omega (arith, ap (λ (x : Fed). x.answer.refusal) e, (table-due n (refusal-numbers t)).0, k))
    counted_of (by-record e) h k = absurd (omega (arith, ap (λ (x : Fed). x.answer.refusal) e, k))
    counted_of (too_many e) h k = absurd (omega (arith, ap (λ (x : Fed). x.answer.refusal) e, k))
    counted_of (by_value n e) h k = ap (λ (x : Fed). x.carried) e
    counted_of (on e) h k = absurd (omega (arith, ap (λ (x : Fed). x.answer.refusal) e, h))

    nothing-of : Ends t r v f → 4 ≤ f.answer.refusal → f.carried ≡ r
    nothing-of (by-table n e) h = ap (λ (x : Fed). x.carried) e
    nothing-of (by-record e) h = ap (λ (x : Fed). x.carried) e
    nothing-of (too_many e) h = ap (λ (x : Fed). x.carried) e
    nothing-of (by_value n e) h = absurd (omega (arith, ap (λ (x : Fed). x.answer.refusal) e, (value-due n (value-number v)).1, h))
    nothing-of (on e) h = absurd (omega (arith, ap (λ (x : Fed). x.answer.refusal) e, h))

  pub feed-number : FeedNumber (feed_of t r v).answer.refusal
  feed-number = number_of (feed_of t r v) ends

  read_number : (b : Bool) → eqb (refusal_of v) 0 ≡ b → (cond b (goes_on t r v) (only_counted (refusal_of v) r)).answer.refusal ≡ refusal_of v
  read_number true q = sym (eqb-true (refusal_of v) 0 q)
  read_number false q = refl

  pub one_value : OneValue t r v
  one_value =
      record {
        of-table = λ n. ap (λ (x : Fed). x.answer.refusal) (sym (feed-table t r v refl n));
        of-record = λ z f. ap (λ (x : Fed). x.answer.refusal) (sym (feed-unfit t r v z f));
        seventeenth = λ z f e. ap (λ (x : Fed). x.answer.refusal) (sym (feed-full t r v z f e));
        of-value = λ z f n. ap (λ (x : Fed). x.answer.refusal) (sym (feed-read t r v z f n)) ∙ read_number (eqb (refusal_of v) 0) refl;
        accepted = accepted-of (feed_of t r v) ends;
        zeros = zeros_of (feed_of t r v) ends;
        only-counted = counted_of (feed_of t r v) ends;
        nothing = nothing-of (feed_of t r v) ends;
      }
