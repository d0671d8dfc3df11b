-- A run of bytes, one byte at a time.
-- Assumes nothing.
use mathlib.Core.Path.{◌≡◌, refl, sym, ap, ◌∙◌}
use mathlib.Core.Bool.{Bool, true, false, cond, ◌&&◌}
use mathlib.Core.List.{List, [], ◌∷◌}
use Prim.Native.Nat.{ℕ, zero, suc, ◌+◌, ◌≤◌, ◌<◌}
use native.Mathlib.Nat.{add-zero}
use native.Mathlib.Numerals.{add-one}
use native.Mathlib.Omega.{arith}
use lib.ListN.{length, get_or, drop_of_length-le}
use lib.Seq.{drop-cons}
use Rattle.base_lists.specs.Cuts.{run}
use Rattle.value_cursor.specs.Walk.{run_at, four_at}

module _ (p : ℕ → Bool) (s : List ℕ) (at : ℕ) where
  pub run_step : at < length s → p (get_or s at 0) ≡ true → run_at p s at ≡ run_at p s (at + 1)
  unfolding run run_at
  run_step h e = rw (drop-cons s at 0, e, add-one) (omega arith)

  pub run-stop : at < length s → p (get_or s at 0) ≡ false → run_at p s at ≡ at
  unfolding run run_at
  run-stop h e = rw (drop-cons s at 0, e) (add-zero at)

  pub run_end : length s ≤ at → run_at p s at ≡ at
  unfolding run run_at
  run_end h = rw (drop_of_length-le s) (add-zero at)

-- four tests that all pass
four-all : (a b c d : Bool) → (a && (b && (c && d))) ≡ true → (a ≡ true) × (b ≡ true) × (c ≡ true) × (d ≡ true)
four-all true true true true e = (refl, refl, refl, refl)
four-all true true true false e = absurd (let y : ◌≡◌ {A = ℕ} 0 1 = cc in omega arith)
four-all true true false d e = absurd (let y : ◌≡◌ {A = ℕ} 0 1 = cc in omega arith)
four-all true false c d e = absurd (let y : ◌≡◌ {A = ℕ} 0 1 = cc in omega arith)
four-all false b c d e = absurd (let y : ◌≡◌ {A = ℕ} 0 1 = cc in omega arith)

-- four bytes that pass are four steps
pub run-four : (p : ℕ → Bool) (s : List ℕ) (at : ℕ) (x : Bool) → at + 4 ≤ length s → x ≡ four_at p s at → x ≡ true
    → run_at p s at ≡ run_at p s (at + 4)
run-four p s at x h g e =
    let f = four-all (p (get_or s at 0)) (p (get_or s (at + 1) 0)) (p (get_or s (at + 2) 0)) (p (get_or s (at + 3) 0)) (sym g
    ∙ e) in
    let two : at + 1 + 1 ≡ at + 2 = omega arith in
    let three : at + 2 + 1 ≡ at + 3 = omega arith in
    let all : at + 3 + 1 ≡ at + 4 = omega arith in
    run_step p s at (omega arith) f.0
    ∙ run_step p s (at + 1) (omega arith) f.1 ∙ ap (run_at p s) two
    ∙ run_step p s (at + 2) (omega arith) f.2 ∙ ap (run_at p s) three
    ∙ run_step p s (at + 3) (omega arith) f.3 ∙ ap (run_at p s) all

-- a byte other than 0 is in the list
pub peeked : (s : List ℕ) (at b : ℕ) → get_or s at 0 ≡ suc b → at < length s
peeked [] at b e = absurd (let z : ◌≡◌ {A = ℕ} 0 (suc b) = e in omega arith)
peeked (x ∷ s) zero b e = omega arith
peeked (x ∷ s) (suc at) b e = let h = peeked s at b e in omega arith

pub byte-in : (s : List ℕ) (at : ℕ) {n : ℕ} → get_or s at 0 ≡ n → 0 < n → at < length s
byte-in s at {n = zero} e h = absurd (omega arith)
byte-in s at {n = suc b} e h = peeked s at b e

-- by which way a test goes
pub by-test {ℓ} : {A : Type ℓ} (P : A → Type 0) (b : Bool) (x y : A) → (b ≡ true → P x) → (b ≡ false → P y) → P
    (cond b x y)
by-test P true x y f g = f refl
by-test P false x y f g = g refl
