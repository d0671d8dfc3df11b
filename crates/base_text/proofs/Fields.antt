-- Laws of the texts between colons: comparing bytes is comparing lists of names.
use Prim.Native.Nat.{ℕ, ◌≤◌, ◌<◌}
use mathlib.Core.Path.{◌≡◌, refl, ap, ap₂, sym, ◌∙◌}
use mathlib.Core.Bool.{Bool, true, false, ◌&&◌, and_assoc}
use mathlib.Core.List.{List, [], ◌∷◌, ◌++◌}
use native.Mathlib.Omega.{arith}
use lib.ListN.{length, drop, drop_of_length-le}
use lib.Seq.{drop-cons}
use lib.Dec.{eqb, ltb}
use borrow.Author.Tests.{eq-eqb, ne_eqb, eqb-true, eqb-false, ltb-true, ltb-false}
use Rattle.base_lists.proofs.Cuts.{past-drop, up_to-stop}
use Rattle.base_lists.proofs.Bools.{by_test}
use Rattle.base_lists.specs.Cuts.{up_to, past}
use Rattle.theory_resolution.specs.Names.{same_name, same_parts}
use Rattle.base_text.specs.Text.{fields, on_first, after_colons, text_of, covers}

-- the first of the fields, with a c after it, or with none
pub fields-more : (c : ℕ) (s : List ℕ) → length (up_to c s) < length s → fields c s ≡ up_to c s ∷ fields c (past c s)
unfolding up_to past fields on_first
fields-more c [] h = absurd (omega arith)
fields-more c (x ∷ xs) h =
    by_test (eqb x c) (λ e. simp e)
    (λ e. let k : length (up_to c xs) < length xs = omega (arith, simp e at h) in simp (e, fields-more c xs k))

pub fields-last : (c : ℕ) (s : List ℕ) → length s ≤ length (up_to c s) → fields c s ≡ up_to c s ∷ []
unfolding up_to past fields on_first
fields-last c [] h = refl
fields-last c (x ∷ xs) h =
    by_test (eqb x c) (λ e. absurd (omega (arith, simp e at h)))
    (λ e. let k : length xs ≤ length (up_to c xs) = omega (arith, simp e at h) in simp (e, fields-last c xs k))

pub fields-first : (c : ℕ) (s : List ℕ) → (r : List (List ℕ)) × (fields c s ≡ up_to c s ∷ r)
fields-first c s =
    by_test (ltb (length (up_to c s)) (length s))
    (λ e. (fields c (past c s), fields-more c s (ltb-true _ _ e)))
    (λ e. ([], fields-last c s (ltb-false _ _ e)))

-- texts are equal exactly where their fields are
pub same-fields : (c : ℕ) (a b : List ℕ) → same_parts (fields c a) (fields c b) ≡ same_name a b
unfolding fields on_first
same-fields c [] [] = refl
same-fields c [] (y ∷ ys) =
    let f = fields-first c ys in
    by_test (eqb y c) (λ e. simp (e, f.1)) (λ e. simp (e, f.1))
same-fields c (x ∷ xs) [] =
    let f = fields-first c xs in
    by_test (eqb x c) (λ e. simp (e, f.1)) (λ e. simp (e, f.1))
same-fields c (x ∷ xs) (y ∷ ys) =
    let f = fields-first c xs in
    let g = fields-first c ys in
    let ih = same-fields c xs ys in
    by_test (eqb x c)
    (λ d. by_test (eqb y c)
    (λ e.
    let z : eqb x y ≡ true = eq-eqb x y (eqb-true x c d ∙ sym (eqb-true y c e)) in
    simp (d, e, z) ih)
    (λ e.
    let z : eqb x y ≡ false = ne_eqb x y (λ q. eqb-false y c e (sym q ∙ eqb-true x c d)) in
    simp (d, e, z, g.1)))
    (λ d. by_test (eqb y c)
    (λ e.
    let z : eqb x y ≡ false = ne_eqb x y (λ q. eqb-false x c d (q ∙ eqb-true y c e)) in
    simp (d, e, z, f.1))
    (λ e. simp (d, e, f.1, g.1, and_assoc) (ap (λ z. eqb x y && z) (simp (f.1, g.1) at ih))))

-- p is w, or stands at its beginning, before a colon
unfoldable pub covers_bytes : List ℕ → List ℕ → Bool
covers_bytes [] [] = true
covers_bytes [] (y ∷ w) = eqb y 58
covers_bytes (x ∷ p) [] = false
covers_bytes (x ∷ p) (y ∷ w) = eqb x y && covers_bytes p w

-- a text covers another exactly where its fields are above the other's
pub covers-fields : (p w : List ℕ) → covers p w ≡ covers_bytes p w
unfolding fields on_first covers covers_bytes
covers-fields [] [] = refl
covers-fields [] (y ∷ ys) =
    let g = fields-first 58 ys in
    by_test (eqb y 58) (λ e. simp (e, g.1)) (λ e. simp (e, g.1))
covers-fields (x ∷ xs) [] =
    let f = fields-first 58 xs in
    by_test (eqb x 58) (λ e. simp (e, f.1)) (λ e. simp (e, f.1))
covers-fields (x ∷ xs) (y ∷ ys) =
    let f = fields-first 58 xs in
    let g = fields-first 58 ys in
    let ih = covers-fields xs ys in
    by_test (eqb x 58)
    (λ d. by_test (eqb y 58)
    (λ e.
    let z : eqb x y ≡ true = eq-eqb x y (eqb-true x 58 d ∙ sym (eqb-true y 58 e)) in
    simp (d, e, z) ih)
    (λ e.
    let z : eqb x y ≡ false = ne_eqb x y (λ q. eqb-false y 58 e (sym q ∙ eqb-true x 58 d)) in
    simp (d, e, z, g.1)))
    (λ d. by_test (eqb y 58)
    (λ e.
    let z : eqb x y ≡ false = ne_eqb x y (λ q. eqb-false x 58 d (q ∙ eqb-true y 58 e)) in
    simp (d, e, z, f.1))
    (λ e. by_test (eqb x y)
    (λ z. simp (d, e, f.1, g.1, z) (simp (f.1, g.1) at ih))
    (λ z. simp (d, e, f.1, g.1, z))))

-- the fields of two texts with a separator between
pub fields_join : (c : ℕ) (p s : List ℕ) → fields c (p ++ (c ∷ s)) ≡ fields c p ++ fields c s
unfolding fields on_first
fields_join c [] s = simp (eq-eqb c c refl)
fields_join c (x ∷ xs) s =
    let f = fields-first c xs in
    by_test (eqb x c)
    (λ e. simp (e, fields_join c xs s))
    (λ e. simp (e, fields_join c xs s, f.1))

pub fields-up_to : (c : ℕ) (s : List ℕ) → fields c (up_to c s) ≡ up_to c s ∷ []
unfolding fields up_to on_first
fields-up_to c [] = refl
fields-up_to c (x ∷ xs) = by_test (eqb x c) (λ e. simp e) (λ e. simp (e, fields-up_to c xs))

-- the fields after the first, wherever the first ends
pub fields-tail : (c : ℕ) (s : List ℕ) → drop 1 (fields c (drop (length (up_to c s)) s)) ≡ drop 1 (fields c s)
unfolding fields
fields-tail c s =
    by_test (ltb (length (up_to c s)) (length s))
    (λ e.
    let h = ltb-true (length (up_to c s)) (length s) e in
    rw (drop-cons s (length (up_to c s)) 0 h, up_to-stop c s h, eq-eqb c c refl, past-drop c s, fields-more c s h))
    (λ e.
    let h = ltb-false (length (up_to c s)) (length s) e in
    rw (drop_of_length-le s {i = length (up_to c s)} h, fields-last c s h))

-- a path's text is the text that says it
pub text-fields : (s : List ℕ) → text_of (fields 58 s) ≡ s
unfolding text_of after_colons fields on_first
text-fields [] = refl
text-fields (x ∷ xs) =
    let f = fields-first 58 xs in
    let ih = text-fields xs in
    by_test (eqb x 58)
    (λ e. simp (e, f.1) (ap₂ ◌∷◌ (sym (eqb-true x 58 e)) (simp f.1 at ih)))
    (λ e. simp (e, f.1) (ap (λ (l : List ℕ). x ∷ l) (simp f.1 at ih)))
