-- Laws of the last name of a path, and of a node that is written.
use Prim.Native.Nat.{ℕ, suc, zero, ◌+◌, ◌-◌, ◌≤◌, ◌<◌}
use mathlib.Core.Path.{◌≡◌, refl, ap, sym, ◌∙◌}
use mathlib.Core.List.{List, [], ◌∷◌, ◌++◌}
use native.Mathlib.Omega.{arith}
use lib.ListN.{length, get_or, take, drop, length-take, length-drop, drop_of_length-le}
use lib.Seq.{drop-cons}
use borrow.Author.Tests.{ne_eqb}
use Rattle.base_lists.proofs.Cuts.{part_end}
use Rattle.base_text.specs.Text.{fields, on_first}
use Rattle.base_text.proofs.Fields.{fields_join}
use Rattle.tree_forms.specs.Bytes.{text_bytes, node_bytes}
use Rattle.tree_forms.specs.Meaning.{last_name}
use Rattle.tree_forms.proofs.Growing.{last_snoc}
use Rattle.tree_bytes.specs.Laid.{Puts}
use Rattle.tree_bytes.proofs.Laying.{puts-join, puts-same}
use Rattle.tree_from_table.specs.Stored.{most_node}

-- the last name of a path
abbrev pub Whole : List ℕ → Type 0
Whole w = fields 58 w ≡ w ∷ []

pub whole-nil : (w : List ℕ) → Whole (drop (length w) w)
unfolding fields
whole-nil w = rw (drop_of_length-le w {i = length w} (omega arith))

pub whole-more : (w : List ℕ) (i : ℕ) → 0 < i → i ≤ length w → Whole (drop i w) → (get_or w (i - 1) 0 ≡ 58 → ⊥) → Whole (drop (i - 1) w)
unfolding fields on_first
whole-more w zero h l e n = absurd (omega arith)
whole-more w (suc i) h l e n =
    let q : suc i - 1 ≡ i = omega arith in
    let m : get_or w i 0 ≡ 58 → ⊥ = λ z. n (ap (λ j. get_or w j 0) q ∙ z) in
    ap (λ j. fields 58 (drop j w)) q ∙ ap (fields 58) (drop-cons w i 0 (omega arith))
    ∙ (rw (ne_eqb (get_or w i 0) 58 m, e))
    ∙ ap (λ (l : List ℕ). l ∷ []) (sym (drop-cons w i 0 (omega arith)) ∙ ap (λ j. drop j w) (sym q))

pub last-at : (w : List ℕ) (i : ℕ) → 0 < i → i ≤ length w → Whole (drop i w) → get_or w (i - 1) 0 ≡ 58 → drop i w ≡ last_name (fields 58 w)
last-at w zero h l e g = absurd (omega arith)
last-at w (suc i) h l e g =
    let q : suc i - 1 ≡ i = omega arith in
    let c : get_or w i 0 ≡ 58 = ap (λ j. get_or w j 0) (sym q) ∙ g in
    let s : w ≡ take i w ++ (58 ∷ drop (suc i) w) = split w i (omega arith) ∙ ap (λ x. take i w ++ (x ∷ drop (suc i) w)) c in
    let f : fields 58 w ≡ fields 58 (take i w) ++ (drop (suc i) w ∷ []) = ap (fields 58) s ∙ fields_join 58 (take i w) (drop (suc i) w)
    ∙ ap (λ l. fields 58 (take i w) ++ l) e in
    sym (ap last_name f ∙ last_snoc (fields 58 (take i w)) (drop (suc i) w))
  where
    split : (w : List ℕ) (i : ℕ) → i < length w → w ≡ take i w ++ (get_or w i 0 ∷ drop (suc i) w)
    split [] i h = absurd (omega arith)
    split (x ∷ w) zero h = refl
    split (x ∷ w) (suc i) h = ap (λ (l : List ℕ). x ∷ l) (split w i (omega arith))

pub last-whole : (w : List ℕ) (i : ℕ) → i ≤ 0 → Whole (drop i w) → drop i w ≡ last_name (fields 58 w)
last-whole w zero h e = sym (ap last_name e)
last-whole w (suc i) h e = absurd (omega arith)

-- a node: its category, its parent and the last name of its path
pub puts-node : {x y z v : List ℕ} {a r s u : ℕ} (c d n o m : ℕ) (t w : List ℕ) → w ≡ take n (drop o t) → length w ≤ 255 → drop m w ≡ last_name (fields 58 w)
    → Puts x y a (c ∷ []) r → Puts y z r (d ∷ []) s → Puts z v s (text_bytes (take (length w - m) (drop m w))) u
    → Puts x v a (node_bytes (record { category = c; parent = d; last = last_name (fields 58 (take n (drop o t))) })) u × (u ≤ a + most_node)
puts-node c d n o m t w e h g F G H =
    let q : take (length w - m) (drop m w) ≡ last_name (fields 58 (take n (drop o t))) = part_end w m ∙ g ∙ ap (λ (l : List ℕ). last_name (fields 58 l)) e in (
      puts-same (ap (λ (l : List ℕ). c ∷ d ∷ text_bytes l) q) (puts-join (puts-join F G) H),
      omega (arith, F.end, G.end, H.end, length-take (length w - m) (drop m w), length-drop m w),
    )
