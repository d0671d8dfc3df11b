-- A set has a bit past the n lowest exactly if something is left of it past them.
use Prim.Native.Nat.{ℕ, zero, suc, ◌+◌, ◌-◌, ◌/◌, ◌%◌, ◌^◌, ◌≤◌, ◌<◌}
use mathlib.Core.Path.{◌≡◌, sym, ap, ◌∙◌}
use mathlib.Core.Bool.{true, false}
use lib.Pow.{pow-add}
use borrow.Author.Tests.{eq-eqb, ne_eqb, eqb-true, eqb-false}
use native.Mathlib.Omega.{arith}
use native.Mathlib.Nat.{zero-div, div-one, pow-succ', div-div-eq-div-mul}
use native.Mathlib.Decide.{ℕ_discrete}
use Rattle.resolve_available.specs.Available.{has_bit, known}

-- what is left past n + k bits
past : (x n k : ℕ) → x / 2 ^ (n + k) ≡ x / 2 ^ n / 2 ^ k
past x n k = ap (λ z. x / z) (pow-add 2 n k) ∙ sym (div-div-eq-div-mul x (2 ^ n) (2 ^ k))

-- a number that is not 0 has a bit
some-bit : (m x : ℕ) → x ≤ m → 0 < x → (k : ℕ) × (x / 2 ^ k % 2 ≡ 1)
some-bit zero x h p = absurd (omega arith)
some-bit (suc m) x h p = go (ℕ_discrete (x % 2) 1) (some-bit m (x / 2))
  where
    go : Dec (x % 2 ≡ 1) → (x / 2 ≤ m → 0 < x / 2 → (k : ℕ) × (x / 2 / 2 ^ k % 2 ≡ 1)) → (k : ℕ) × (x / 2 ^ k % 2 ≡ 1)
    go (yes e) ih = (0, ap (λ z. z % 2) (div-one x) ∙ e)
    go (no e) ih =
        let w = ih (omega arith) (omega arith) in
        (suc w.0, ap (λ z. z % 2) (ap (λ z. x / z) (pow-succ' 2 w.0) ∙ sym (div-div-eq-div-mul x 2 (2 ^ w.0))) ∙ w.1)

pub strange-bit : (set n : ℕ) → known set n ≡ false → (s : ℕ) × (n ≤ s) × (has_bit set s ≡ true)
strange-bit set n e =
    let p : 0 < set / 2 ^ n = let z = eqb-false (set / 2 ^ n) 0 e in omega arith in
    let w = some-bit (set / 2 ^ n) (set / 2 ^ n) (omega arith) p in
    (n + w.0, omega arith, eq-eqb _ 1 (ap (λ z. z % 2) (past set n w.0) ∙ w.1))

pub bit-strange : (set n s : ℕ) → n ≤ s → has_bit set s ≡ true → known set n ≡ false
bit-strange set n s h e = ne_eqb (set / 2 ^ n) 0 none
  where
    none : set / 2 ^ n ≡ 0 → ⊥
    none z =
        let k : n + (s - n) ≡ s = omega arith in
        let l : set / 2 ^ s ≡ 0 = ap (λ x. set / 2 ^ x) (sym k) ∙ past set n (s - n) ∙ ap (λ x. x / 2 ^ (s - n)) z ∙ zero-div (2 ^ (s - n)) in
        let b : set / 2 ^ s % 2 ≡ 1 = eqb-true _ 1 e in
        omega arith
