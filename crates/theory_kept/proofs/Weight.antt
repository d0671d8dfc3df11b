-- Different signals together weigh no more than all, and a signal no less than what it says in two categories.
use Prim.Native.Nat.{ℕ, zero, suc, ◌+◌, ◌≤◌, ◌<◌}
use mathlib.Core.Path.{◌≡◌, refl, sym, ap, ◌∙◌}
use mathlib.Core.Logic.{◌≢◌}
use mathlib.Core.Bool.{true≢false}
use mathlib.Core.List.{List, [], ◌∷◌, ◌++◌, Memᴰ}
use lib.Dec.{eqb}
use lib.ListN.{get_or, set, length, length-set}
use lib.Seq.{get_or-set_other}
use borrow.Author.Tests.{eq-eqb, ne_eqb}
use native.Mathlib.Omega.{arith}
use native.Mathlib.Decide.{ℕ_discrete}
use Rattle.base_lists.specs.Lists.{Distinct}
use Rattle.base_lists.proofs.Lists.{eqb-exact, member_of}
use Rattle.theory_resolution.specs.Table.{Urn, urn, place_in}
use Rattle.theory_kept.specs.Weight.{weight, weight_all}

module _ (w : Urn → ℕ) where
  pub weight-append : (us vs : List Urn) → weight w (us ++ vs) ≡ weight w us + weight w vs
  weight-append [] vs = omega arith
  weight-append (u ∷ us) vs = omega (arith, weight-append us vs)

  -- the signals with these numbers
  abbrev pub weight_of : List (List Urn) → List ℕ → ℕ
  weight_of sigs [] = 0
  weight_of sigs (x ∷ l) = weight w (get_or sigs x []) + weight_of sigs l

  -- one signal, and the others
  take_out : (sigs : List (List Urn)) (x : ℕ) → x < length sigs → weight_all w sigs ≡ weight w (get_or sigs x []) + weight_all w (set sigs x [])
  take_out [] x h = absurd (omega arith)
  take_out (sig ∷ sigs) zero h = omega arith
  take_out (sig ∷ sigs) (suc x) h = omega (arith, take_out sigs x (omega arith))

  others : (sigs : List (List Urn)) (x : ℕ) (l : List ℕ) → ((y : ℕ) → Memᴰ y l → y ≢ x) → weight_of (set sigs x []) l ≡ weight_of sigs l
  others sigs x [] h = refl
  others sigs x (y ∷ l) h =
      omega (
        arith,
        ap (weight w) (get_or-set_other sigs x y [] [] (h y (Memᴰ.head refl))),
        others sigs x l (λ z m. h z (Memᴰ.tail m)),
      )

  pub weight-fits : (sigs : List (List Urn)) (l : List ℕ) → Distinct eqb l → ((x : ℕ) → Memᴰ x l → x < length sigs) → weight_of sigs l ≤ weight_all w sigs
  weight-fits sigs [] d h = omega arith
  weight-fits sigs (x ∷ l) d h =
      omega (
        arith,
        take_out sigs x (h x (Memᴰ.head refl)),
        others sigs x l (λ y m e. true≢false (sym (member_of eqb eqb-exact x l (rw e at m)) ∙ d.0)),
        weight-fits (set sigs x []) l d.1 (λ y m. rw (length-set sigs x []) (h y (Memᴰ.tail m))),
      )

  -- what a signal says in one category
  pub one_place : (sig : List Urn) (d : ℕ) → place_in sig d ≢ [] → w (urn d (place_in sig d)) ≤ weight w sig
  one_place [] d n = absurd (n refl)
  one_place (u ∷ us) d n = go (ℕ_discrete u.cat d) (one_place us d)
    where
      go : Dec (u.cat ≡ d) → (place_in us d ≢ [] → w (urn d (place_in us d)) ≤ weight w us) → w (urn d (place_in (u ∷ us) d)) ≤ w u + weight w us
      go (yes e) ih = rw (eq-eqb u.cat d e, ← e) (omega arith)
      go (no z) ih = rw (ne_eqb u.cat d z) (omega (arith, ih (λ i. n (rw (ne_eqb u.cat d z) i))))

  -- and in two
  pub two-places : (sig : List Urn) (d e : ℕ) → d ≢ e → place_in sig d ≢ [] → place_in sig e ≢ []
      → w (urn d (place_in sig d)) + w (urn e (place_in sig e)) ≤ weight w sig
  two-places [] d e a n m = absurd (n refl)
  two-places (u ∷ us) d e a n m = go (ℕ_discrete u.cat d) (ℕ_discrete u.cat e) (two-places us d e a)
    where
      go : Dec (u.cat ≡ d) → Dec (u.cat ≡ e)
          → (place_in us d ≢ [] → place_in us e ≢ [] → w (urn d (place_in us d)) + w (urn e (place_in us e)) ≤ weight w us)
          → w (urn d (place_in (u ∷ us) d)) + w (urn e (place_in (u ∷ us) e)) ≤ w u + weight w us
      go (yes i) (yes j) ih = absurd (a (sym i ∙ j))
      go (yes i) (no j) ih =
          rw (eq-eqb u.cat d i, ne_eqb u.cat e j, ← i) (omega (arith, one_place us e (λ z. m (rw (ne_eqb u.cat e j) z))))
      go (no i) (yes j) ih =
          rw (eq-eqb u.cat e j, ne_eqb u.cat d i, ← j) (omega (arith, one_place us d (λ z. n (rw (ne_eqb u.cat d i) z))))
      go (no i) (no j) ih =
          rw (ne_eqb u.cat d i, ne_eqb u.cat e j)
          (omega (arith, ih (λ z. n (rw (ne_eqb u.cat d i) z)) (λ z. m (rw (ne_eqb u.cat e j) z))))
