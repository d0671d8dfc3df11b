-- The machine resolver walks an image of the right form, and refuses any other with 15.
use Prim.Native.Nat.{ℕ, ◌≤◌}
use mathlib.Core.Path.{◌≡◌, refl, sym, ◌∙◌}
use mathlib.Core.Logic.{◌↔◌, ◌⊎◌, inl, inr}
use mathlib.Core.Bool.{Bool, true, false, cond, true≢false}
use mathlib.Core.List.{List}
use lib.Dec.{eqb}
use borrow.Author.Tests.{eq-eqb, eqb-true}
use native.Mathlib.Omega.{arith}
use Rattle.value_reader.specs.Value.{refusal_of, uris_of}
use Rattle.value_reader.proofs.Agree.{refusal-numbers as value-numbers}
use Rattle.machine_image.specs.Refusals.{form_of}
use Rattle.table_decode.specs.Tables.{table_refusal, table_of}
use Rattle.table_decode.proofs.RefusalNumbers.{refusal-numbers}
use Rattle.machine_library.specs.Claims.{RightForm}
use Rattle.machine_library.proofs.FormRight.{form-to-right, right-to-form}
use Rattle.resolve_run.specs.declared.Resolution.{Resolution}
use Rattle.resolve_small.specs.Resolve.{resolved_over}
use Rattle.resolve_library.specs.Resolve.{walked_signal, refused, answered, machine_of}

module _ (t im v : List ℕ) where
  pub machine-walks : refusal_of v ≡ 0 → table_refusal t ≡ 0 → RightForm (table_of t) im → machine_of t im v ≡ answered t (uris_of v) (walked_signal t im (uris_of v))
  unfolding resolved_over
  machine-walks e z r = simp (eq-eqb (refusal_of v) 0 e, eq-eqb (table_refusal t) 0 z, right-to-form (table_of t) im r)

  no_table : (table_refusal t ≡ 0) ⊎ ((4 ≤ table_refusal t) × (table_refusal t ≤ 12)) → table_refusal t ≡ 15 → ⊥
  no_table (inl e) z = omega (arith, e, z)
  no_table (inr h) z = omega (arith, h.1, z)

  fifteen-to : (machine_of t im v).refusal ≡ 15 → (refusal_of v ≡ 0) × (table_refusal t ≡ 0) × (RightForm (table_of t) im → ⊥)
  unfolding resolved_over
  fifteen-to = go (eqb (refusal_of v) 0) refl (eqb (table_refusal t) 0) refl (form_of (table_of t) im) refl
    where
      given : Resolution
      given = answered t (uris_of v) (walked_signal t im (uris_of v))

      go : (a : Bool) → eqb (refusal_of v) 0 ≡ a → (b : Bool) → eqb (table_refusal t) 0 ≡ b → (c : Bool) → form_of (table_of t) im ≡ c
          → (cond a (cond b (cond c given (refused 15)) (refused (table_refusal t))) (refused (refusal_of v))).refusal ≡ 15
          → (refusal_of v ≡ 0) × (table_refusal t ≡ 0) × (RightForm (table_of t) im → ⊥)
      go true e true f true g z = absurd (omega (arith, z))
      go true e true f false g z = (eqb-true (refusal_of v) 0 e, eqb-true (table_refusal t) 0 f, λ r. true≢false (sym (right-to-form (table_of t) im r) ∙ g))
      go true e false f c g z = absurd (no_table (refusal-numbers t) z)
      go false e b f c g z = absurd (omega (arith, value-numbers v, z))

  fifteen-of : refusal_of v ≡ 0 → table_refusal t ≡ 0 → (RightForm (table_of t) im → ⊥) → (machine_of t im v).refusal ≡ 15
  unfolding resolved_over
  fifteen-of e z n = simp (eq-eqb (refusal_of v) 0 e, eq-eqb (table_refusal t) 0 z, wrong (form_of (table_of t) im) refl)
    where
      wrong : (b : Bool) → form_of (table_of t) im ≡ b → form_of (table_of t) im ≡ false
      wrong true q = absurd (n (form-to-right (table_of t) im q))
      wrong false q = q

  pub machine-fifteen : ((machine_of t im v).refusal ≡ 15) ↔ ((refusal_of v ≡ 0) × (table_refusal t ≡ 0) × (RightForm (table_of t) im → ⊥))
  machine-fifteen = (fifteen-to, λ h. fifteen-of h.0 h.1 h.2)
