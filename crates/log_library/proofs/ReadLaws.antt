-- Reading a log: the calls end where it ends.
use Prim.Native.Nat.{ℕ, zero, suc, ◌+◌, ◌≤◌, ◌<◌}
use mathlib.Core.Path.{◌≡◌, sym, ap, ◌∙◌}
use mathlib.Core.Bool.{Bool, false, ◌&&◌}
use mathlib.Core.List.{List}
use native.Mathlib.Omega.{arith}
use lib.ListN.{length}
use lib.Dec.{eqb}
use borrow.Author.Tests.{ne_eqb, le-leb, lt-leb}
use Rattle.base_numbers.specs.Numbers.{most_log_bytes}
use Rattle.log_library.specs.Log.{word_at, after_call, end_from, end_of, is_log}

-- a byte past the end counts as 0
-- calls end no earlier than they begin
pub ends-after : (log : List ℕ) (n at : ℕ) → at ≤ end_from log at n
unfolding end_from
ends-after log zero at = omega arith
ends-after log (suc n) at = omega (arith, ends-after log n (after_call log at))

pub log-long : (log : List ℕ) → most_log_bytes < length log → false ≡ is_log log
unfolding is_log
log-long log h = ap (λ (b : Bool). b && eqb (end_of log) (length log)) (sym (lt-leb (length log) most_log_bytes h))

pub log-start : (log : List ℕ) {w : ℕ} → length log ≤ most_log_bytes → w ≡ word_at log 0 → is_log log ≡ eqb (end_from log 2 w) (length log)
unfolding is_log
log-start log h e =
    ap (λ (b : Bool). b && eqb (end_of log) (length log)) (le-leb (length log) most_log_bytes h)
    ∙ ap (λ (n : ℕ). eqb (end_from log 2 n) (length log)) (sym e)

-- one call further
module _ (log : List ℕ) (n at : ℕ) {b : Bool} (inv : b ≡ eqb (end_from log at n) (length log)) where
  pub log-end : n ≡ 0 → eqb at (length log) ≡ b
  unfolding end_from
  log-end e = sym (inv ∙ ap (λ (m : ℕ). eqb (end_from log at m) (length log)) e)

  module _ (m : ℕ) (e : n ≡ suc m) {w : ℕ} (f : w ≡ word_at log at) where
    pub log-on : b ≡ eqb (end_from log (at + 2 + w + 3) m) (length log)
    unfolding end_from
    log-on =
        inv ∙ ap (λ (j : ℕ). eqb (end_from log at j) (length log)) e
        ∙ ap (λ (x : ℕ). eqb (end_from log (at + 2 + x + 3) m) (length log)) (sym f)

    pub log-cut : length log < at + 2 + w + 3 → false ≡ b
    log-cut h = sym (log-on ∙ ne_eqb (end_from log (at + 2 + w + 3) m) (length log) (λ z. omega (arith, ends-after log m (at + 2 + w + 3), h, z)))
