-- The plain resolver's answer, by how direct resolution ended.
use Prim.Native.Nat.{ℕ}
use mathlib.Core.Path.{◌≡◌, refl, sym, ap, ap₂, ◌∙◌}
use mathlib.Core.List.{List}
use lib.Dec.{eqb}
use mathlib.Core.Bool.{cond}
use borrow.Author.Tests.{ne_eqb, eqb-false}
use native.Mathlib.Omega.{arith}
use Rattle.base_numbers.specs.declared.refusal.Refusal.{Refusal}
use Rattle.base_numbers.specs.Refusals.{refusal_number}
use Rattle.base_numbers.proofs.Refusals.{refusal-some}
use Rattle.base_lists.proofs.Numbers.{pos-of-ne}
use Rattle.base_lists.proofs.Bools.{by_test}
use Rattle.value_reader.specs.Value.{refusal_of, uris_of}
use Rattle.theory_resolution.specs.Direct.{used_of}
use Rattle.node_step.specs.Step.{coded}
use Rattle.table_decode.specs.Tables.{table_refusal, table_of}
use Rattle.resolve_run.specs.declared.Resolution.{Resolution}
use Rattle.resolve_run.specs.declared.run.Current.{Current}
use Rattle.resolve_run.specs.declared.answer.Ended.{Ended}
use Rattle.resolve_run.specs.declared.run.Current.TheVariants.{Direct}
use Rattle.resolve_run.specs.Run.{tries_of, signal_now}
use Rattle.resolve_run.proofs.AnswerLaws.{End, value-refused, none-refused, refused-first}
use Rattle.resolve_library.specs.Resolve.{taken_as, direct_signal, refused, answered, plain_of, tries_in, tried_as, plain_with}
use Rattle.theory_resolution.specs.Direct as direct
use Rattle.resolve_run.proofs.AnswerLaws as ends

-- a refused answer has no tries
tried-refused : (k n i : ℕ) → (k ≡ 0 → ⊥) → tried_as (refused k) n ≡ tried_as (refused k) i
tried-refused k n i h = rw (ne_eqb k 0 h)

some_number : (v k : ℕ) → (k ≡ 0 → ⊥) → cond (eqb v 0) k v ≡ 0 → ⊥
some_number v k n = by_test (eqb v 0) (λ q. λ z. n (ap (λ b. cond b k v) (sym q) ∙ z)) (λ q. λ z. eqb-false v 0 q (ap (λ b. cond b k v) (sym q) ∙ z))

-- a refused table
module _ (t v : List ℕ) where
  pub tried-table : (k : Refusal) → refusal_number k ≡ table_refusal t
      → tried_as (refused (cond (eqb (refusal_of v) 0) (refusal_number k) (refusal_of v))) 0 ≡ plain_with t v
  unfolding plain_with plain_of
  tried-table k e =
      tried-refused (cond (eqb (refusal_of v) 0) (refusal_number k) (refusal_of v)) 0 (tries_in t (uris_of v))
      (some_number (refusal_of v) (refusal_number k) (λ z. omega (arith, refusal-some k, z)))
      ∙ ap (λ (r : Resolution). tried_as r (tries_in t (uris_of v))) (refused-first t v (answered t (uris_of v) (direct_signal t (uris_of v))) k e)

-- the answer with its tries, by how the value ended
module _ (t v : List ℕ) (e : Ended) (formed : table_refusal t ≡ 0) where
  pub tried-right : End t v (Direct (coded (table_of t) (direct.direct (table_of t) (used_of (taken_as t (uris_of v))))) (tries_in t (uris_of v))) e
      → tried_as e.answer (tries_of e.last) ≡ plain_with t v
  unfolding plain_with plain_of signal_now
  tried-right (ends.not_taken n a) =
      ap (λ (x : Resolution). tried_as x (tries_of e.last)) a
      ∙ tried-refused (refusal_of v) (tries_of e.last) (tries_in t (uris_of v)) n
      ∙ ap (λ (x : Resolution). tried_as x (tries_in t (uris_of v))) (value-refused t v (answered t (uris_of v) (direct_signal t (uris_of v))) refl (pos-of-ne n))
  tried-right (ends.taken z x a) =
      ap₂ tried_as (a ∙ none-refused t v (answered t (uris_of v) (direct_signal t (uris_of v))) z formed) (ap tries_of x)
