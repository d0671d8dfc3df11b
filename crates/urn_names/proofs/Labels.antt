-- A name's labels are what stands between its `@`, and each has the form of one.
use Prim.Native.Nat.{ℕ, suc, ◌-◌, ◌≤◌, ◌<◌}
use mathlib.Core.Path.{◌≡◌, refl, ap, subst, ◌∙◌}
use mathlib.Core.Logic.{⊎_elim}
use mathlib.Core.Bool.{true, not, ◌&&◌, and-eq-true_iff}
use mathlib.Core.List.Memᴰ
use mathlib.Core.List.{List, [], ◌∷◌, Memᴰ}
use native.Mathlib.Omega.{arith}
use lib.ListN.{length, get_or, length-drop}
use lib.Dec.{eqb, leb}
use borrow.Author.Tests.{leb-true}
use Rattle.base_numbers.specs.Numbers.{most_label_bytes}
use Rattle.base_lists.proofs.Cuts.{past-drop}
use Rattle.base_lists.proofs.Bools.{by_test}
use Rattle.base_lists.specs.Cuts.{up_to, past}
use Rattle.base_lists.specs.Tests.{all}
use Rattle.base_lists.specs.Numbers.{within}
use Rattle.base_text.specs.Text.{on_first, fields}
use Rattle.urn_names.specs.Names.{label_byte, label_ok, name_ok}
use Rattle.base_text.proofs.Fields.{fields-more}
use Rattle.urn_names.specs.Labels.{at_no_label}
use Rattle.urn_names.proofs.Runs.{other_byte}

-- what the form of a label says of its length and its bytes
pub label-length : (l : List ℕ) → label_ok l ≡ true → (1 ≤ length l) × (length l ≤ most_label_bytes)
unfolding label_ok
label-length l e =
    let a = (and-eq-true_iff (within 1 most_label_bytes (length l)) (not (eqb (get_or l 0 0) 45)
    && (not (eqb (get_or l (length l - 1) 0) 45) && all label_byte l))).0 e in
    let b = (and-eq-true_iff (leb 1 (length l)) (leb (length l) most_label_bytes)).0 a.0 in
    (leb-true 1 (length l) b.0, leb-true (length l) most_label_bytes b.1)

label-bytes : (l : List ℕ) → label_ok l ≡ true → all label_byte l ≡ true
unfolding label_ok
label-bytes l e =
    let a = (and-eq-true_iff (within 1 most_label_bytes (length l)) (not (eqb (get_or l 0 0) 45)
    && (not (eqb (get_or l (length l - 1) 0) 45) && all label_byte l))).0 e in
    let b = (and-eq-true_iff (not (eqb (get_or l 0 0) 45)) (not (eqb (get_or l (length l - 1) 0) 45) && all label_byte l)).0 a.1 in
    ((and-eq-true_iff (not (eqb (get_or l (length l - 1) 0) 45)) (all label_byte l)).0 b.1).1

-- there is no `@` in a label
whole-label : (l : List ℕ) → all label_byte l ≡ true → fields 64 l ≡ l ∷ []
unfolding fields all on_first
whole-label [] h = refl
whole-label (x ∷ l) h =
    let p = (and-eq-true_iff (label_byte x) (all label_byte l)).0 h in
    rw (other_byte label_byte 64 x at_no_label p.0, whole-label l p.1)

pub name-labels : (x : List ℕ) → name_ok x ≡ true → (l : List ℕ) → Memᴰ l (fields 64 x) → label_ok l ≡ true
unfolding name_ok
name-labels x e l m =
    by_test (label_ok x)
    (λ t.
    let i : l ≡ x = Memᴰ.eq_of_singleton (subst (λ (f : List (List ℕ)). Memᴰ l f) (whole-label x (label-bytes x t)) m) in
    ap label_ok i ∙ t)
    (λ t.
    let a = (and-eq-true_iff (label_ok (up_to 64 x)) (label_ok (past 64 x))).0 (rw t at e) in
    let h : length (up_to 64 x) < length x = omega (
      arith,
      (label-length (past 64 x) a.1).0,
      ap length (past-drop 64 x),
      length-drop (suc (length (up_to 64 x))) x,
    ) in
    let f : fields 64 x ≡ up_to 64 x ∷ past 64 x ∷ [] = fields-more 64 x h
    ∙ ap (λ r. up_to 64 x ∷ r) (whole-label (past 64 x) (label-bytes (past 64 x) a.1)) in
    ⊎_elim (λ i. ap label_ok i ∙ a.0) (λ k. ap label_ok (Memᴰ.eq_of_singleton k) ∙ a.1)
    (Memᴰ.cases_cons (subst (λ (r : List (List ℕ)). Memᴰ l r) f m)))
