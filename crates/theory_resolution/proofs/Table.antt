-- Laws of a table: its search is sound, its rows hold its places, and their parts.
use Prim.Native.Nat.{ℕ, zero, suc, ◌+◌, ◌≤◌, ◌<◌}
use mathlib.Core.Path.{◌≡◌, refl, ap, ◌∙◌}
use mathlib.Core.Logic.{◌⊎◌, inl, inr}
use mathlib.Core.Bool.{Bool, true, false}
use mathlib.Core.Option.{some}
use mathlib.Core.List.{List, [], ◌∷◌, ◌++◌}
use lib.Dec.{eqb}
use borrow.Author.Tests.{eqb-true, ne_eqb}
use lib.ListN.{length, get_or, set, length-append}
use native.Mathlib.Omega.{arith}
use native.Mathlib.Nat.{add-zero, zero-add}
use Rattle.theory_resolution.specs.Names.{Name, Parts}
use Rattle.theory_resolution.proofs.Names.{row-exact}
use Rattle.theory_resolution.specs.Table.{Urn, Table, Row, place_in, place, row_from, row_of, same_row, find_from, find, parts_of, most_parts}

found_at : (n i : ℕ) (sigs : List (List Urn)) (r : Row) (s : ℕ) → find_from n i sigs r ≡ some s → (k : ℕ) × (s ≡ i + k) × (row_from (get_or sigs k []) 0 n ≡ r)
found_at n i [] r s e = let z : ◌≡◌ {A = ℕ} 0 1 = cc in absurd (omega arith)
found_at n i (sig ∷ sigs) r s e = go (same_row (row_from sig 0 n) r) refl (λ h. found_at n (suc i) sigs r s h)
  where
    go : (b : Bool) → same_row (row_from sig 0 n) r ≡ b
        → (find_from n (suc i) sigs r ≡ some s → (k : ℕ) × (s ≡ suc i + k) × (row_from (get_or sigs k []) 0 n ≡ r))
        → (k : ℕ) × (s ≡ i + k) × (row_from (get_or (sig ∷ sigs) k []) 0 n ≡ r)
    go true h ih =
        let e' : some i ≡ some s = rw h at e in
        let e₁ : i ≡ s = cc in
        (0, omega arith, row-exact.to (row_from sig 0 n) r h)
    go false h ih = let k = ih (rw h at e) in (suc k.0, omega (arith, k.1), k.2)

pub find-sound : (t : Table) (r : Row) (s : ℕ) → find t r ≡ some s → row_of t s ≡ r
find-sound t r s e =
    let k = found_at t.cats 0 t.signals r s e in
    let q : s ≡ k.0 = omega (arith, k.1) in
    rw q k.2

pub find-start : (t : Table) → 0 < length t.signals → find t (row_of t 0) ≡ some 0
find-start t h = go t.signals h
  where
    go : (sigs : List (List Urn)) → 0 < length sigs → find_from t.cats 0 sigs (row_from (get_or sigs 0 []) 0 t.cats) ≡ some 0
    go [] h = absurd (omega arith)
    go (sig ∷ sigs) h = rw (row-exact.self (row_from sig 0 t.cats))

-- a signal that is found is one of the table
pub find-below : (n i : ℕ) (sigs : List (List Urn)) (r : Row) (s : ℕ) → find_from n i sigs r ≡ some s → s < i + length sigs
find-below n i [] r s e = let z : ◌≡◌ {A = ℕ} 0 1 = cc in absurd (omega arith)
find-below n i (sig ∷ sigs) r s e = go (same_row (row_from sig 0 n) r) refl (λ h. find-below n (suc i) sigs r s h)
  where
    go : (b : Bool) → same_row (row_from sig 0 n) r ≡ b → (find_from n (suc i) sigs r ≡ some s → s < suc i + length sigs) → s < i + length (sig ∷ sigs)
    go true h ih =
        let e' : some i ≡ some s = rw h at e in
        let e₁ : i ≡ s = cc in
        omega arith
    go false h ih = omega (arith, ih (rw h at e))

-- at a signal's own places there is a signal
pub find-row : (n i : ℕ) (sigs : List (List Urn)) (k : ℕ) → k < length sigs → (s : ℕ) × (find_from n i sigs (row_from (get_or sigs k []) 0 n) ≡ some s)
find-row n i [] k h = absurd (omega arith)
find-row n i (sig ∷ sigs) zero h = (i, rw (row-exact.self (row_from sig 0 n)))
find-row n i (sig ∷ sigs) (suc k) h = go (same_row (row_from sig 0 n) (row_from (get_or sigs k []) 0 n)) refl (find-row n (suc i) sigs k (omega arith))
  where
    go : (b : Bool) → same_row (row_from sig 0 n) (row_from (get_or sigs k []) 0 n) ≡ b
        → (s : ℕ) × (find_from n (suc i) sigs (row_from (get_or sigs k []) 0 n) ≡ some s)
        → (s : ℕ) × (find_from n i (sig ∷ sigs) (row_from (get_or sigs k []) 0 n) ≡ some s)
    go true e ih = (i, rw e)
    go false e ih = (ih.0, rw e ih.1)

-- and where no two signals have the same places, it is that signal
pub find-self : (t : Table) → ((i j : ℕ) → i < length t.signals → j < length t.signals → row_of t i ≡ row_of t j → i ≡ j)
    → (s : ℕ) → s < length t.signals → find t (row_of t s) ≡ some s
find-self t rows s h =
    let w = find-row t.cats 0 t.signals s h in
    let b = find-below t.cats 0 t.signals (row_of t s) w.0 w.1 in
    w.1 ∙ ap some (rows w.0 s (omega (arith, b)) h (find-sound t (row_of t s) w.0 w.1))

-- a row's entry is the place
pub row_at : (sig : List Urn) (c n k : ℕ) → k < n → get_or (row_from sig c n) k [] ≡ place_in sig (c + k)
row_at sig c zero k h = absurd (omega arith)
row_at sig c (suc n) zero h = rw add-zero
row_at sig c (suc n) (suc k) h = row_at sig (suc c) n k (omega arith) ∙ ap (place_in sig) (omega arith)

pub row-place : (t : Table) (s c : ℕ) → c < t.cats → get_or (row_of t s) c [] ≡ place t s c
row-place t s c h = row_at (get_or t.signals s []) 0 t.cats c h ∙ ap (place t s) (zero-add c)

pub row-length : (sig : List Urn) (c n : ℕ) → length (row_from sig c n) ≡ n
row-length sig c zero = refl
row-length sig c (suc n) = ap suc (row-length sig (suc c) n)

-- all parts of a row
abbrev pub total : Row → ℕ
total [] = 0
total (p ∷ r) = length p + total r

-- a longer place is a place outside the row, or makes the row longer
pub total-grows : (r : Row) (c : ℕ) (x : Name) (e : Parts) → (set r c (get_or r c [] ++ x ∷ e) ≡ r) ⊎ (total r < total (set r c (get_or r c [] ++ x ∷ e)))
total-grows [] c x e = inl refl
total-grows (p ∷ r) zero x e = inr (omega (arith, length-append p (x ∷ e)))
total-grows (p ∷ r) (suc c) x e = go (total-grows r c x e)
  where
    go : (set r c (get_or r c [] ++ x ∷ e) ≡ r) ⊎ (total r < total (set r c (get_or r c [] ++ x ∷ e)))
        → (set (p ∷ r) (suc c) (get_or r c [] ++ x ∷ e) ≡ p ∷ r) ⊎ (total (p ∷ r) < total (set (p ∷ r) (suc c) (get_or r c [] ++ x ∷ e)))
    go (inl h) = inl (ap (λ l. p ∷ l) h)
    go (inr h) = inr (omega arith)

-- a row's parts are no more than the signal's
total-none : (c n : ℕ) → total (row_from [] c n) ≡ 0
total-none c zero = refl
total-none c (suc n) = rw (total-none (suc c) n)

-- past its category a URN does not matter
total-past : (u : Urn) (us : List Urn) (c n : ℕ) → u.cat < c → total (row_from (u ∷ us) c n) ≡ total (row_from us c n)
total-past u us c zero h = refl
total-past u us c (suc n) h = rw (ne_eqb u.cat c (λ e. omega arith), total-past u us (suc c) n (omega arith))

total-more : (u : Urn) (us : List Urn) (c n : ℕ) → total (row_from (u ∷ us) c n) ≤ length u.path + total (row_from us c n)
total-more u us c zero = omega arith
total-more u us c (suc n) = go (eqb u.cat c) refl (total-more u us (suc c) n)
  where
    go : (b : Bool) → eqb u.cat c ≡ b → total (row_from (u ∷ us) (suc c) n) ≤ length u.path + total (row_from us (suc c) n)
        → total (row_from (u ∷ us) c (suc n)) ≤ length u.path + total (row_from us c (suc n))
    go true e ih = let q = eqb-true u.cat c e in rw e (omega (arith, total-past u us (suc c) n (omega arith)))
    go false e ih = rw e (omega arith)

total-parts : (sig : List Urn) (c n : ℕ) → total (row_from sig c n) ≤ parts_of sig
total-parts [] c n = omega (arith, total-none c n)
total-parts (u ∷ us) c n = omega (arith, total-more u us c n, total-parts us c n)

parts-most : (sigs : List (List Urn)) (s : ℕ) → parts_of (get_or sigs s []) ≤ most_parts sigs
parts-most [] s = omega arith
parts-most (sig ∷ sigs) zero = omega arith
parts-most (sig ∷ sigs) (suc s) = omega (arith, parts-most sigs s)

pub total-most : (t : Table) (s : ℕ) → total (row_of t s) ≤ most_parts t.signals
total-most t s = omega (arith, total-parts (get_or t.signals s []) 0 t.cats, parts-most t.signals s)
