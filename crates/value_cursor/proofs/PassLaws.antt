-- A pass over a value: a turn of its loop, and what it counts and keeps.
-- Assumes nothing.
use mathlib.Core.Path.{◌≡◌, refl, sym, ap, ◌∙◌}
use mathlib.Core.List.{List, [], ◌∷◌}
use Prim.Native.Nat.{ℕ, zero, suc, ◌+◌, ◌<◌}
use native.Mathlib.Omega.{arith}
use lib.ListN.{length, get_or}
use borrow.Author.Tests.{eq-eqb, ne_eqb}
use Rattle.value_cursor.specs.Reading.{Reading, unfit, spans, add}
use Rattle.value_cursor.specs.Pass.{noted, note_all, summary}
use Rattle.value_cursor.specs.declared.alert_param.Span.{Span}
use Rattle.value_cursor.specs.declared.pass.Scan.{Scan}
use Rattle.std.specs.Prelude.{Option, Some}

summary-add : (k : ℕ) (t : Scan) (p : Span) (r : Reading) → summary k t (add p r) ≡ summary k (noted k t p) r
unfolding note_all
summary-add k t p unfit = refl
summary-add k t p (spans ps) = refl

pub summary-last : (k : ℕ) (t : Scan) (p : Span) → summary k t (spans (p ∷ [])) ≡ Some (noted k t p)
unfolding note_all
summary-last k t p = refl

-- a turn of the loop over entries
pub scan-more : (k : ℕ) (t u : Scan) (p : Span) (x : Option Scan) (q r : Reading) → x ≡ summary k t q → q ≡ add p r
    → u ≡ noted k t p → x ≡ summary k u r
scan-more k t u p x q r e f g = e ∙ ap (summary k t) f ∙ summary-add k t p r ∙ ap (λ (y : Scan). summary k y r) (sym g)

pub all-entries : (k : ℕ) (t : Scan) (ps : List Span) → (note_all k t ps).entries ≡ t.entries + length ps
unfolding note_all
all-entries k t [] = omega arith
all-entries k t (p ∷ ps) = omega (arith, all-entries k (noted k t p) ps)

all_past : (k : ℕ) (t : Scan) (ps : List Span) → k < t.entries → (note_all k t ps).span ≡ t.span
unfolding note_all
all_past k t [] h = refl
all_past k t (p ∷ ps) h =
    let n : t.entries ≡ k → ⊥ = λ e. omega arith in
    all_past k (noted k t p) ps (omega arith) ∙ simp (ne_eqb t.entries k n)

pub all-span : (k : ℕ) (t : Scan) (ps : List Span) (i : ℕ) → k ≡ t.entries + i → (note_all k t ps).span ≡ get_or ps i t.span
unfolding note_all
all-span k t [] i e = refl
all-span k t (p ∷ ps) zero e =
    let q : t.entries ≡ k = omega arith in
    all_past k (noted k t p) ps (omega arith) ∙ simp (eq-eqb t.entries k q)
all-span k t (p ∷ ps) (suc i) e =
    let n : t.entries ≡ k → ⊥ = λ q. omega arith in
    all-span k (noted k t p) ps i (omega arith) ∙ simp (ne_eqb t.entries k n)
