-- The claims about the resolver of small images.
use Prim.Native.Nat.{ℕ}
use mathlib.Core.Path.{◌≡◌, refl, sym, ap, ◌∙◌}
use mathlib.Core.Logic.{◌↔◌}
use mathlib.Core.Bool.{Bool, true, false, cond}
use mathlib.Core.List.{List}
use lib.Dec.{eqb}
use native.Mathlib.Omega.{arith}
use borrow.Author.Tests.{eq-eqb, ne_eqb}
use Rattle.value_reader.specs.Value.{uris_of}
use Rattle.table_decode.specs.Tables.{table_of}
use Rattle.resolve_run.specs.Answers.{number_of, refused, answered}
use Rattle.resolve_run.specs.declared.Resolution.{Resolution}
use Rattle.resolve_run.proofs.AnswerLaws.{unless-number}
use Rattle.small_image.specs.Small.{small_form}
use Rattle.resolve_small.specs.Resolve.{resolved_over, walked_small, resolved_small}
use Rattle.resolve_small.specs.Claims.{RightSmall, AnswersClaim}
use Rattle.resolve_small.proofs.FormLaws.{small-to, small_of_lem}

module _ (t small v : List ℕ) where
  abbrev walked : Resolution
  walked = answered t (uris_of v) (walked_small t small (uris_of v))

  abbrev within : Resolution
  within = cond (small_form (table_of t) small) walked (refused 15)

  by_number : resolved_small t small v ≡ cond (eqb (number_of t v) 0) within (refused (number_of t v))
  unfolding resolved_over
  by_number = unless-number t v within

  first : (number_of t v ≡ 0 → ⊥) → resolved_small t small v ≡ refused (number_of t v)
  first n = by_number ∙ ap (λ b. cond b within (refused (number_of t v))) (ne_eqb (number_of t v) 0 n)

  module _ (z : number_of t v ≡ 0) where
    inner : resolved_small t small v ≡ within
    inner = by_number ∙ ap (λ b. cond b within (refused (number_of t v))) (eq-eqb (number_of t v) 0 z)

    walks : RightSmall (table_of t) small → resolved_small t small v ≡ walked
    walks r = inner ∙ ap (λ b. cond b walked (refused 15)) (small_of_lem (table_of t) small r)

    fifteen : (resolved_small t small v ≡ refused 15) ↔ (RightSmall (table_of t) small → ⊥)
    fifteen = (to, λ n. inner ∙ ap (λ b. cond b walked (refused 15)) (wrong n (small_form (table_of t) small) refl))
      where
        to : resolved_small t small v ≡ refused 15 → RightSmall (table_of t) small → ⊥
        to e r = let q : ◌≡◌ {A = ℕ} 0 15 = ap (λ (x : Resolution). x.refusal) (sym (walks r) ∙ e) in omega arith

        wrong : (RightSmall (table_of t) small → ⊥) → (b : Bool) → small_form (table_of t) small ≡ b → small_form (table_of t) small ≡ false
        wrong n true q = absurd (n (small-to (table_of t) small q))
        wrong n false q = q

pub answers-claim : AnswersClaim
answers-claim t small v = record { first = first t small v; fifteen = fifteen t small v; walks = walks t small v }
