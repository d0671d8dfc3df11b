-- White space: what stands at a position, and the walk over it.
-- Assumes nothing.
use mathlib.Core.Path.{◌≡◌, refl, sym, ap, ◌∙◌, subst}
use mathlib.Core.Logic.{◌⊎◌, ⊎_elim, inl, inr}
use mathlib.Core.Bool.{Bool, true, false, cond, ◌&&◌, ◌||◌}
use mathlib.Core.List.{List}
use Prim.Native.Nat.{ℕ, zero, suc, ◌+◌, ◌-◌, ◌≤◌, ◌<◌, max}
use native.Mathlib.Omega.{arith}
use lib.Dec.{eqb}
use lib.ListN.{length, get_or, get_or-eq_default}
use borrow.Author.Tests.{eqb-true, eqb-false, eq-eqb, ne_eqb}
use Rattle.value_cursor.specs.Bytes.{is_blank}
use Rattle.value_cursor.specs.Walk.{halt, move}
use Rattle.value_cursor.specs.Parts.{fold_at, fold_length, blank_at, blank_move, white_step, white_at}
use Rattle.value_cursor.proofs.RunLaws.{peeked, by-test}
use Rattle.value_cursor.proofs.WalkLaws.{walk-ind, walk-halt, walk-move}

pub blank-cases : (b : ℕ) → is_blank b ≡ true → (b ≡ 32) ⊎ (b ≡ 9)
unfolding is_blank
blank-cases b = go (eqb b 32) refl (eqb b 9) refl
  where
    go : (x : Bool) → eqb b 32 ≡ x → (y : Bool) → eqb b 9 ≡ y → (x || (y || false)) ≡ true → (b ≡ 32) ⊎ (b ≡ 9)
    go true e y f t = inl (eqb-true b 32 e)
    go false e true f t = inr (eqb-true b 9 f)
    go false e false f t = absurd (let z : false ≡ true = t in let y : ◌≡◌ {A = ℕ} 0 1 = cc in omega arith)

-- what white space may begin with: a space, a tab or CR (13)
abbrev pub begins_white : ℕ → Bool
begins_white b = is_blank b || eqb b 13

pub begins-not : (b : ℕ) → begins_white b ≡ false → (is_blank b ≡ false) × (b ≡ 13 → ⊥)
begins-not b h = go (is_blank b) refl h
  where
    go : (x : Bool) → is_blank b ≡ x → (x || eqb b 13) ≡ false → (is_blank b ≡ false) × (b ≡ 13 → ⊥)
    go true e f = absurd (let z : true ≡ false = f in let y : ◌≡◌ {A = ℕ} 0 1 = cc in omega arith)
    go false e f = (e, eqb-false b 13 f)

-- three tests that all pass
pub three-all : (a b c : Bool) → (a && (b && c)) ≡ true → (a ≡ true) × (b ≡ true) × (c ≡ true)
three-all true true true e = (refl, refl, refl)
three-all true true false e = absurd (let y : ◌≡◌ {A = ℕ} 0 1 = cc in omega arith)
three-all true false c e = absurd (let y : ◌≡◌ {A = ℕ} 0 1 = cc in omega arith)
three-all false b c e = absurd (let y : ◌≡◌ {A = ℕ} 0 1 = cc in omega arith)

module _ (s : List ℕ) where
  pub blank-in : (at : ℕ) → is_blank (get_or s at 0) ≡ true → at < length s
  blank-in at e = ⊎_elim (λ q. peeked s at 31 q) (λ q. peeked s at 8 q) (blank-cases (get_or s at 0) e)

  -- the three bytes of a fold
  pub fold-bytes : (at : ℕ) → fold_at s at ≡ true
      → (get_or s at 0 ≡ 13) × (get_or s (at + 1) 0 ≡ 10) × (is_blank (get_or s (at + 2) 0) ≡ true)
  fold-bytes at e =
      let f = three-all (eqb (get_or s at 0) 13) (eqb (get_or s (at + 1) 0) 10) (is_blank (get_or s (at + 2) 0)) e in
      (eqb-true _ _ f.0, eqb-true _ _ f.1, f.2)

  blank-to : (at : ℕ) → at + blank_at s at ≤ max at (length s)
  unfolding blank_at
  blank-to at =
      let P : ℕ → Type 0 = λ k. at + k ≤ max at (length s) in
      by-test P (is_blank (get_or s at 0)) 1 _ (λ e. omega (arith, blank-in at e))
      (λ _. by-test P (fold_at s at) 3 0 (λ e. omega (arith, blank-in (at + 2) (fold-bytes at e).2)) (λ _. omega arith))

  blank_ok : (at k : ℕ) → at + k ≤ max at (length s) → (g : ℕ → ℕ) (n : ℕ) → blank_move at k ≡ move g n
      → (at < n) × (n ≤ length s)
  blank_ok at zero h g n e = absurd (let z : ◌≡◌ {A = ℕ} 0 1 = cc in omega arith)
  blank_ok at (suc k) h g n e = let z : at + suc k ≡ n = cc in omega arith

  pub white-ok : (at : ℕ) (g : ℕ → ℕ) (n : ℕ) → white_step s at ≡ move g n → (at < n) × (n ≤ length s)
  unfolding white_step
  white-ok at g n e = blank_ok at (blank_at s at) (blank-to at) g n e

  Bound : ℕ → ℕ → Type 0
  Bound at r = (at ≤ r) × (r ≤ max at (length s))

  halt-bound : (at k r : ℕ) → blank_move at k ≡ halt r → Bound at r
  unfolding Bound
  halt-bound at zero r e = let z : at ≡ r = cc in omega arith
  halt-bound at (suc k) r e = absurd (let z : ◌≡◌ {A = ℕ} 0 1 = cc in omega arith)

  move-bound : (at k : ℕ) (g : ℕ → ℕ) (n x : ℕ) → blank_move at k ≡ move g n → n ≤ length s → at < n → Bound n x
      → Bound at (g x)
  unfolding Bound
  move-bound at zero g n x e h i l = absurd (let z : ◌≡◌ {A = ℕ} 0 1 = cc in omega arith)
  move-bound at (suc k) g n x e h i l =
      let z : ◌≡◌ {A = ℕ → ℕ} (λ y. y) g = cc in
      subst (λ (f : ℕ → ℕ). (at ≤ f x) × (f x ≤ max at (length s))) z (omega arith)

  white-bound : (at : ℕ) → Bound at (white_at s at)
  unfolding white_at white_step
  white-bound at =
      walk-ind (white_step s) 0 s white-ok Bound
      (λ p r e. halt-bound p (blank_at s p) r e)
      (λ p g n x e h l. move-bound p (blank_at s p) g n x e (white-ok p g n e).1 h l) at

  pub white-from : (at : ℕ) → at ≤ white_at s at
  unfolding Bound
  white-from at = (white-bound at).0

  -- the loop over white space
  pub white-stop : (at k : ℕ) → k ≡ blank_at s at → k ≡ 0 → white_at s at ≡ at
  unfolding white_at white_step
  white-stop at k e f = walk-halt (white_step s) 0 s at at (ap (blank_move at) (sym e ∙ f))

  blank-go : (at k : ℕ) → k ≡ blank_at s at → (j : ℕ) → k ≡ suc j
      → (white_at s at ≡ white_at s (at + k)) × (at < at + k) × (at + k ≤ length s)
  unfolding white_at white_step
  blank-go at k e j f =
      let m : blank_move at (blank_at s at) ≡ move (λ r. r) (at + k) = ap (blank_move at) (sym e ∙ f)
      ∙ ap (λ (n : ℕ). move (λ r. r) (at + n)) (sym f) in
      let o = white-ok at (λ r. r) (at + k) m in
      (walk-move (white_step s) 0 s at (λ r. r) (at + k) m o.0 o.1, o.0, o.1)

  pub white-more : (at k : ℕ) → k ≡ blank_at s at → (k ≡ 0 → ⊥)
      → (white_at s at ≡ white_at s (at + k)) × (at < at + k) × (at + k ≤ length s)
  white-more at zero e f = absurd (f refl)
  white-more at (suc j) e f = blank-go at (suc j) e j refl

  -- what stands at a position
  module _ (at : ℕ) where
    pub blank-yes : is_blank (get_or s at 0) ≡ true → 1 ≡ blank_at s at
    unfolding blank_at
    blank-yes e = simp e

    pub blank-end : length s ≤ at → 0 ≡ blank_at s at
    unfolding blank_at is_blank
    blank-end h = simp (get_or-eq_default s 0 h)

    pub blank-fold : is_blank (get_or s at 0) ≡ false → (n : ℕ) → n ≡ fold_length s at → n ≡ blank_at s at
    unfolding blank_at
    blank-fold nb n e = e ∙ simp nb

    fold_is : (x : Bool) → fold_at s at ≡ x → cond x 3 0 ≡ fold_length s at
    fold_is x e = ap (λ (y : Bool). cond y 3 0) (sym e)

    pub blank-no : is_blank (get_or s at 0) ≡ false → (get_or s at 0 ≡ 13 → ⊥) → 0 ≡ blank_at s at
    blank-no nb n = blank-fold nb 0 (fold_is false (simp (ne_eqb _ _ n)))

    -- from CR
    module _ (cr : get_or s at 0 ≡ 13) where
      pub cr-not-blank : is_blank (get_or s at 0) ≡ false
      unfolding is_blank
      cr-not-blank = ap is_blank cr

      pub fold-from : (x : Bool) → get_or s (at + 1) 0 ≡ 10 → x ≡ is_blank (get_or s (at + 2) 0) → cond x 3 0 ≡ fold_length s at
      fold-from x lf e = fold_is x (simp (eq-eqb _ _ cr, eq-eqb _ _ lf) (sym e))

      pub fold-lf : (get_or s (at + 1) 0 ≡ 10 → ⊥) → 0 ≡ fold_length s at
      fold-lf n = fold_is false (simp (eq-eqb _ _ cr, ne_eqb _ _ n))

      fold-past : (x : Bool) → is_blank (get_or s (at + 2) 0) ≡ false → eqb (get_or s (at + 1) 0) 10 ≡ x
          → (x && is_blank (get_or s (at + 2) 0)) ≡ false
      fold-past true e f = e
      fold-past false e f = refl

      pub fold-short : length s - at < 3 → 0 ≡ fold_length s at
      unfolding is_blank
      fold-short h =
          let e : is_blank (get_or s (at + 2) 0) ≡ false = ap is_blank (get_or-eq_default s 0 (omega arith)) in
          fold_is false (simp (eq-eqb _ _ cr) (fold-past (eqb (get_or s (at + 1) 0) 10) e refl))

  -- a turn of the loop over white space
  module _ (at : ℕ) where
    pub white-past-end : length s ≤ at → white_at s at ≡ at
    white-past-end h = white-stop at 0 (blank-end at h) refl

    pub white-above : 32 < get_or s at 0 → white_at s at ≡ at
    unfolding is_blank
    white-above h =
        let sp : get_or s at 0 ≡ 32 → ⊥ = λ z. omega arith in
        let tab : get_or s at 0 ≡ 9 → ⊥ = λ z. omega arith in
        white-stop at 0 (blank-no at (simp (ne_eqb _ _ sp, ne_eqb _ _ tab)) (λ z. omega arith)) refl

    pub white-other : (get_or s at 0 ≡ 32 → ⊥) → (get_or s at 0 ≡ 9 → ⊥) → (get_or s at 0 ≡ 13 → ⊥) → white_at s at ≡ at
    unfolding is_blank
    white-other sp tab n = white-stop at 0 (blank-no at (simp (ne_eqb _ _ sp, ne_eqb _ _ tab)) n) refl

    pub white-space : get_or s at 0 ≡ 32 → white_at s at ≡ white_at s (at + 1)
    unfolding is_blank
    white-space e = (white-more at 1 (blank-yes at (ap is_blank e)) (λ z. omega arith)).0

    pub white-tab : get_or s at 0 ≡ 9 → white_at s at ≡ white_at s (at + 1)
    unfolding is_blank
    white-tab e = (white-more at 1 (blank-yes at (ap is_blank e)) (λ z. omega arith)).0

    module _ (n : ℕ) (cr : get_or s at 0 ≡ 13) (e : n ≡ fold_length s at) where
      pub white-broken : n ≡ 0 → white_at s at ≡ at
      white-broken f = white-stop at n (blank-fold at (cr-not-blank at cr) n e) f

      pub white-fold : (n ≡ 0 → ⊥) → (white_at s at ≡ white_at s (at + n)) × (at < at + n) × (at + n ≤ length s)
      white-fold f = white-more at n (blank-fold at (cr-not-blank at cr) n e) f
