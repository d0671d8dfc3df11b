-- The form of a small image, clause by clause.
use Prim.Native.Nat.{ℕ, ◌+◌, ◌*◌}
use mathlib.Core.Path.{◌≡◌, sym, ap, ◌∙◌}
use mathlib.Core.Bool.{true}
use mathlib.Core.List.{List}
use lib.ListN.{get_or}
use native.Mathlib.Omega.{arith}
use Rattle.theory_resolution.specs.Table.{Table}
use Rattle.machine_image.specs.Image.{symbol_count, state_count, place_of, signal_in, target_in}
use Rattle.small_image.specs.Small.{small_form}
use Rattle.resolve_small.specs.Claims.{RightSmall}
use Rattle.machine_image.proofs.Form.{form-to-over, form-of-over}

module _ (T : Table) (small : List ℕ) where
  abbrev n : ℕ
  n = symbol_count small

  -- where a class begins
  place_is : (c : ℕ) → place_of 0 small c ≡ 3 + 3 * n + c * (n + 1)
  place_is c = let e : n + 0 + 1 ≡ n + 1 = omega arith in ap (λ w. 3 + 3 * n + c * w) e

  signal-at : (c : ℕ) → signal_in 0 small c ≡ get_or small (3 + 3 * n + c * (n + 1)) 0
  signal-at c = ap (λ i. get_or small i 0) (place_is c)

  target_at : (c k : ℕ) → target_in 0 small c k ≡ get_or small (4 + 3 * n + c * (n + 1) + k) 0
  target_at c k = let e : place_of 0 small c + 1 + 0 + k ≡ 4 + 3 * n + c * (n + 1) + k = omega (arith, place_is c) in ap (λ i. get_or small i 0) e

  -- a small image that passes the test is of right form
  pub small-to : small_form T small ≡ true → RightSmall T small
  small-to e =
      let f = form-to-over 0 T small e in
      record {
        length-right = f.length-right ∙ place_is (state_count small);
        symbols-right = f.symbols-right;
        some-class = f.some-state;
        few-classes = f.few-states;
        signal-listed = λ c h. omega (arith, signal-at c, f.signal-listed c h);
        leads = λ c k h i. omega (arith, target_at c k, f.leads c k h i);
      }

  -- and one of right form passes it
  pub small_of_lem : RightSmall T small → small_form T small ≡ true
  small_of_lem r =
      form-of-over 0 T small (record {
        counts-fit = omega (arith, r.length-right);
        length-right = r.length-right ∙ sym (place_is (state_count small));
        symbols-right = r.symbols-right;
        some-state = r.some-class;
        few-states = r.few-classes;
        signal-listed = λ c h. omega (arith, signal-at c, r.signal-listed c h);
        status-formed = λ c k h i. absurd (omega arith);
        leads = λ c k h i. omega (arith, target_at c k, r.leads c k h i);
      })
