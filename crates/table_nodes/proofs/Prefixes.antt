-- Laws of the paths that begin a text: the ancestors of the path that it says, and itself.
use Prim.Native.Nat.{ℕ, ◌+◌, ◌≤◌, ◌<◌}
use mathlib.Core.Path.{◌≡◌, ap, ap₂, sym, ◌∙◌}
use mathlib.Core.List.{List, [], ◌∷◌, ◌++◌}
use native.Mathlib.Numerals.{add-one}
use lib.ListN.{length, get_or, take, drop, drop_of_length-le}
use lib.Seq.{take-suc, take-add, drop-cons, drop-drop, append_snoc}
use Rattle.base_lists.proofs.Cuts.{up_to-take}
use Rattle.base_lists.specs.Cuts.{up_to}
use Rattle.theory_resolution.specs.Nodes.{past as begins}
use Rattle.base_text.specs.Text.{fields}
use Rattle.base_text.proofs.Fields.{fields-first, fields-up_to, fields_join, fields-tail}

-- the nodes of a URN's text that are still to come when the first i bytes are done
abbrev pub coming : List ℕ → ℕ → List (List (List ℕ))
coming w i = begins (fields 58 (take i w)) (drop 1 (fields 58 (drop i w)))

pub coming-start : (w : List ℕ) → begins [] (fields 58 w) ≡ fields 58 (take (length (up_to 58 w)) w) ∷ coming w (length (up_to 58 w))
coming-start w =
    let f = fields-first 58 w in
    let g : fields 58 w ≡ up_to 58 w ∷ drop 1 (fields 58 w) = rw f.1 in
    ap (begins []) g ∙ rw (fields-tail 58 w, up_to-take 58 w, fields-up_to 58 w)

pub coming-end : (w : List ℕ) (i : ℕ) → length w ≤ i → coming w i ≡ []
unfolding fields
coming-end w i h = rw (drop_of_length-le w {i = i} h)

module _ (w : List ℕ) (i k : ℕ) (h : i < length w) (e : get_or w i 0 ≡ 58) (q : k ≡ length (up_to 58 (drop (i + 1) w))) where
  front : take (i + 1 + k) w ≡ take i w ++ (58 ∷ up_to 58 (drop (i + 1) w))
  front =
      let one : take (i + 1) w ≡ take i w ++ (58 ∷ []) = rw add-one (take-suc w i 0 h ∙ ap (λ z. take i w ++ (z ∷ [])) e) in
      take-add (i + 1) k w
      ∙ ap₂ ◌++◌ one
      (ap (λ z. take z (drop (i + 1) w)) q ∙ up_to-take 58 (drop (i + 1) w))
      ∙ append_snoc (take i w) 58 (up_to 58 (drop (i + 1) w))

  pub fields-front : fields 58 (take (i + 1 + k) w) ≡ fields 58 (take i w) ++ (up_to 58 (drop (i + 1) w) ∷ [])
  fields-front =
      ap (fields 58) front ∙ fields_join 58 (take i w) (up_to 58 (drop (i + 1) w))
      ∙ ap (λ z. fields 58 (take i w) ++ z) (fields-up_to 58 (drop (i + 1) w))

  after-colon : drop 1 (fields 58 (drop i w)) ≡ fields 58 (drop (i + 1) w)
  unfolding fields
  after-colon = rw (add-one, drop-cons w i 0 h, e)

  one_field : fields 58 (drop (i + 1) w) ≡ up_to 58 (drop (i + 1) w) ∷ drop 1 (fields 58 (drop (i + 1) w))
  one_field = rw (fields-first 58 (drop (i + 1) w)).1

  other-fields : drop 1 (fields 58 (drop (i + 1) w)) ≡ drop 1 (fields 58 (drop (i + 1 + k) w))
  other-fields =
      sym (fields-tail 58 (drop (i + 1) w))
      ∙ ap (λ z. drop 1 (fields 58 z)) (drop-drop (length (up_to 58 (drop (i + 1) w))) (i + 1) w ∙ ap (λ z. drop (i + 1 + z) w) (sym q))

  pub coming-more : coming w i ≡ fields 58 (take (i + 1 + k) w) ∷ coming w (i + 1 + k)
  coming-more = rw (after-colon, one_field, other-fields, fields-front)
