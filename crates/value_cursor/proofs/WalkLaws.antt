-- A walk: what a step that halts gives, what one that goes on gives, and induction along a walk.
-- Assumes nothing.
use mathlib.Core.Path.{◌≡◌, refl, sym, ap, ◌∙◌, subst}
use mathlib.Core.List.{List, [], ◌∷◌}
use Prim.Native.Nat.{ℕ, zero, suc, ◌+◌, ◌-◌, ◌≤◌, ◌<◌}
use native.Mathlib.Nat.{add-zero, not-suc-le-zero, le_of_suc-le-suc}
use native.Mathlib.Omega.{arith}
use lib.ListN.{length, get_or, drop, length-drop}
use lib.Seq.{drop-cons, drop-drop}
use Rattle.value_cursor.specs.Walk.{Move, halt, move, next, outcome, walk, walk_at}

module _ {R : Type 0} (f : ℕ → Move R) (d : R) where
  walk-skip : (k at : ℕ) (l : List ℕ) → k ≤ length l → walk f d k at l ≡ walk f d 0 (at + k) (drop k l)
  unfolding walk
  walk-skip zero at l h = ap (λ (x : ℕ). walk f d 0 x l) (sym (add-zero at))
  walk-skip (suc k) at [] h = absurd (not-suc-le-zero h)
  walk-skip (suc k) at (b ∷ l) h =
      let q : suc at + k ≡ at + suc k = omega arith in
      walk-skip k (suc at) l (le_of_suc-le-suc h) ∙ ap (λ (x : ℕ). walk f d 0 x (drop k l)) q

  halt-front : (at : ℕ) (r : R) (l : List ℕ) → f at ≡ halt r → walk f d 0 at l ≡ r
  unfolding walk
  halt-front at r [] e = ap (λ (m : Move R). outcome m d) e
  halt-front at r (b ∷ l) e = ap (λ (m : Move R). outcome m (walk f d (next m - suc at) (suc at) l)) e

  pub walk-halt : (s : List ℕ) (at : ℕ) (r : R) → f at ≡ halt r → walk_at f d s at ≡ r
  unfolding walk_at
  walk-halt s at r e = halt-front at r (drop at s) e

  move-front : (at : ℕ) (g : R → R) (n : ℕ) (b : ℕ) (l : List ℕ) → f at ≡ move g n
      → walk f d 0 at (b ∷ l) ≡ g (walk f d (n - suc at) (suc at) l)
  unfolding walk
  move-front at g n b l e = ap (λ (m : Move R). outcome m (walk f d (next m - suc at) (suc at) l)) e

  pub walk-move : (s : List ℕ) (at : ℕ) (g : R → R) (n : ℕ) → f at ≡ move g n → at < n → n ≤ length s
      → walk_at f d s at ≡ g (walk_at f d s n)
  unfolding walk_at
  walk-move s at g n e h k =
      let i : at < length s = omega arith in
      let room : n - suc at ≤ length (drop (suc at) s) = omega (arith, length-drop (suc at) s) in
      let q : suc at + (n - suc at) ≡ n = omega arith in
      ap (λ (l : List ℕ). walk f d 0 at l) (drop-cons s at 0 i)
      ∙ move-front at g n (get_or s at 0) (drop (suc at) s) e
      ∙ ap g (walk-skip (n - suc at) (suc at) (drop (suc at) s) room
      ∙ ap (λ (l : List ℕ). walk f d 0 (suc at + (n - suc at)) l) (drop-drop (n - suc at) (suc at) s)
      ∙ ap (λ (x : ℕ). walk f d 0 x (drop x s)) q)

  module _ (s : List ℕ) (ok : (at : ℕ) (g : R → R) (n : ℕ) → f at ≡ move g n → (at < n) × (n ≤ length s))
      (P : ℕ → R → Type 0)
      (base : (at : ℕ) (r : R) → f at ≡ halt r → P at r)
      (more : (at : ℕ) (g : R → R) (n : ℕ) (x : R) → f at ≡ move g n → at < n → P n x → P at (g x)) where
    one : (at : ℕ) → ((n : ℕ) → at < n → n ≤ length s → P n (walk_at f d s n)) → (v : Move R) → f at ≡ v
        → P at (walk_at f d s at)
    one at rec (halt r) e = subst (λ (x : R). P at x) (sym (walk-halt s at r e)) (base at r e)
    one at rec (move g n) e =
        let o = ok at g n e in
        subst (λ (x : R). P at x) (sym (walk-move s at g n e o.0 o.1))
        (more at g n (walk_at f d s n) e o.0 (rec n o.0 o.1))

    along : (m at : ℕ) → length s - at ≤ m → P at (walk_at f d s at)
    along zero at h = one at (λ n i k. absurd (omega arith)) (f at) refl
    along (suc m) at h = one at (λ n i k. along m n (omega arith)) (f at) refl

    -- what holds where the walk halts, and is carried back over each step, holds of the whole walk
    pub walk-ind : (at : ℕ) → P at (walk_at f d s at)
    walk-ind at = along (length s) at (omega arith)
