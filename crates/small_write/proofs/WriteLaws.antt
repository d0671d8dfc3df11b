-- Laws of the small image as the code writes it: what fits, how long it is, and the parts lent one after the other.
use Prim.Native.Nat.{ℕ, suc, ◌+◌, ◌-◌, ◌*◌, ◌/◌, ◌%◌, ◌≤◌, ◌<◌}
use mathlib.Core.Path.{◌≡◌, sym, ap, ◌∙◌}
use mathlib.Core.Bool.{true, false, and-eq-true_iff}
use mathlib.Core.List.{List, [], ◌∷◌, ◌++◌}
use lib.ListN.{length, take, drop, replicate, length-append, length-take, length-drop, length-replicate}
use native.Mathlib.Nat.{mul-le-mul_right}
use native.Mathlib.Omega.{arith}
use Rattle.base_numbers.specs.Numbers.{most_states}
use Rattle.base_bytes.specs.Built.{refused, accepted}
use Rattle.base_lists.proofs.Over.{over-all, over-front, length_over, over-lend}
use Rattle.base_lists.specs.Lists.{over}
use Rattle.base_bytes.specs.declared.Built.{Built}
use Rattle.theory_minimal.specs.Machine.{Machine}
use Rattle.theory_minimal.specs.Proposal.{first_of, class_count, small, Fits}
use Rattle.theory_minimal.specs.Test.{fits}
use Rattle.theory_minimal.proofs.Fits.{test-to}
use Rattle.small_rounds.specs.Stored.{stored_machine, is_stored, Stored}
use Rattle.small_rounds.proofs.TestLaws.{stored_of}
use Rattle.small_classes.specs.Check.{stored_fits}
use Rattle.small_image.specs.Small.{small_states}
use Rattle.small_image.proofs.Walks.{first-state}
use Rattle.small_write.specs.Answer.{answer_in, buffer_in}
use Rattle.small_write.specs.Written.{small_by, fit_refusal}
use Rattle.small_write.proofs.RowLaws.{rows-length}
use Rattle.small_write.proofs.AnswerLaws.{answer-refused, answer-short, answer-done}

-- what a passed check says
module _ (rows : List ℕ) (n head k : ℕ) (p : List ℕ) (t : stored_fits rows n head k p ≡ true) where
  abbrev m : Machine
  m = stored_machine rows n head k

  both : (is_stored rows n head k ≡ true) × (fits m p ≡ true)
  unfolding stored_fits
  both = (and-eq-true_iff (is_stored rows n head k) (fits m p)).0 t

  pub is-stored : Stored rows n head k
  is-stored = stored_of rows n head k both.0

  pub fitting : Fits m p
  fitting = test-to m is-stored.formed p both.1

  pub first_below : (c : ℕ) → c < class_count p → first_of p c < n
  first_below c h = (first-state m is-stored.formed p fitting c h).0

-- the length
module _ (front : List ℕ) (m : Machine) (p : List ℕ) where
  abbrev head_of : List ℕ
  head_of = front ++ class_count p % 256 ∷ class_count p / 256 ∷ []

  abbrev classes_of : List ℕ
  classes_of = small_states (small m p) (class_count p)

  pub size_is : (count : ℕ) → count ≡ class_count p → length (small_by front m p) ≡ length front + 2 + count * (1 + m.symbols)
  unfolding small_by
  size_is count e =
      length-append head_of classes_of
      ∙ omega (
        arith,
        length-append front (class_count p % 256 ∷ class_count p / 256 ∷ []),
        rows-length m p (class_count p) ∙ ap (λ z. z * (1 + m.symbols)) (sym e),
      )

  -- three parts lent one after the other: the front with the class count, the classes, and what is left
  pub three-parts : (b h r z : List ℕ) (count from size : ℕ) → count ≡ class_count p → from ≡ length front + 2
      → size ≡ from + count * (1 + m.symbols) → size ≤ length b
      → h ≡ front ++ count % 256 ∷ count / 256 ∷ [] → r ≡ small_states (small m p) count
      → (b₁ b₂ b₃ : List ℕ) → z ≡ replicate (length (take (length b₂ - size) (drop size b₂))) 0
      → b₁ ≡ h ++ drop from b → b₂ ≡ take from b₁ ++ (r ++ drop (size - from) (drop from b₁))
      → b₃ ≡ take size b₂ ++ (z ++ drop (length b₂ - size) (drop size b₂))
      → b₃ ≡ small_by front m p ++ replicate (length b - length (small_by front m p)) 0
  unfolding small_by
  three-parts b h r z count from size c-is from_is type_size fit h-is r-is b₁ b₂ b₃ z-is e₁ e₂ e₃ =
      let h-same : h ≡ head_of = h-is ∙ ap (λ c. front ++ c % 256 ∷ c / 256 ∷ []) c-is in
      let r-same : r ≡ classes_of = r-is ∙ ap (small_states (small m p)) c-is in
      let h-long : length head_of ≡ from = length-append front (class_count p % 256 ∷ class_count p / 256 ∷ []) ∙ sym from_is in
      let w : ℕ = count * (1 + m.symbols) in
      let r-long : length classes_of ≡ w = rows-length m p (class_count p) ∙ ap (λ c. c * (1 + m.symbols)) (sym c-is) in
      let g : size - from ≡ w = omega arith in
      let o₁ : b₁ ≡ over head_of b =
      e₁ ∙ ap (λ x. x ++ drop from b) h-same ∙ over-front head_of b from (omega (arith, h-long)) in
      let o₂ : b₂ ≡ over (head_of ++ classes_of) b =
      e₂ ∙ ap (λ x. take from x ++ (r ++ drop (size - from) (drop from x))) o₁
      ∙ ap (λ x. take from (over head_of b) ++ (x ++ drop (size - from) (drop from (over head_of b)))) r-same
      ∙ ap (λ x. take from (over head_of b) ++ (classes_of ++ drop x (drop from (over head_of b)))) g
      ∙ over-lend head_of b from w classes_of h-long r-long in
      let s-long : length (head_of ++ classes_of) ≡ size = length-append head_of classes_of ∙ omega (arith, h-long, r-long) in
      let b-long : length b₂ ≡ length b = ap length o₂ ∙ length_over (head_of ++ classes_of) b (omega (arith, s-long)) in
      let rest : ℕ = length b₂ - size in
      let part-long : length (take rest (drop size b₂)) ≡ rest = simp (length-take, length-drop) (omega (arith, b-long)) in
      let zeros : List ℕ = replicate rest 0 in
      let z-same : z ≡ zeros = z-is ∙ ap (λ k. replicate k 0) part-long in
      let z-long : length zeros ≡ rest = length-replicate rest 0 in
      let o₃ : b₃ ≡ over ((head_of ++ classes_of) ++ zeros) b =
      e₃ ∙ ap (λ x. take size x ++ (z ++ drop rest (drop size x))) o₂
      ∙ ap (λ x. take size (over (head_of ++ classes_of) b) ++ (x ++ drop rest (drop size (over (head_of ++ classes_of) b)))) z-same
      ∙ over-lend (head_of ++ classes_of) b size rest zeros s-long z-long in
      o₃
      ∙ over-all ((head_of ++ classes_of) ++ zeros) b (length-append (head_of ++ classes_of) zeros ∙ omega (arith, s-long, z-long, b-long))
      ∙ ap (λ x. (head_of ++ classes_of) ++ replicate (length b₂ - x) 0) (sym s-long)
      ∙ ap (λ x. (head_of ++ classes_of) ++ replicate (x - length (head_of ++ classes_of)) 0) b-long

-- the part for the classes, after the first was lent
pub rows-part : (b h : List ℕ) (from w : ℕ) → from + w ≤ length b → length h ≡ from → (b₁ : List ℕ) → b₁ ≡ h ++ drop from b
    → length (take (from + w - from) (drop from b₁)) ≡ w
rows-part b h from w l e b₁ i =
    let g : length b₁ ≡ length b = ap length i ∙ length-append h (drop from b) ∙ omega (arith, e, length-drop from b) in
    simp (length-take, length-drop) (omega (arith, g))

-- the answers
pub small-short : (front : List ℕ) (m : Machine) (p : List ℕ) (count room : ℕ) → count ≡ class_count p → room < length front + 2 + count * (1 + m.symbols)
    → (refused 14 ≡ answer_in 0 (small_by front m p) room) × (replicate room 0 ≡ buffer_in 0 (small_by front m p) room)
small-short front m p count room e h = answer-short (small_by front m p) room (omega (arith, size_is front m p count e))

pub small-done : (front : List ℕ) (m : Machine) (p b : List ℕ) (count room size : ℕ) → count ≡ class_count p
    → size ≡ length front + 2 + count * (1 + m.symbols) → size ≤ room
    → b ≡ small_by front m p ++ replicate (room - length (small_by front m p)) 0
    → (accepted size ≡ answer_in 0 (small_by front m p) room) × (b ≡ buffer_in 0 (small_by front m p) room)
small-done front m p b count room size e s h g =
    let l : length (small_by front m p) ≡ size = size_is front m p count e ∙ sym s in
    let a = answer-done (small_by front m p) room (omega (arith, l)) in
    (ap accepted (sym l) ∙ a.0, g ∙ a.1)

module _ (rows : List ℕ) (n head k : ℕ) (p bytes : List ℕ) (room : ℕ) where
  pub fit-no : stored_fits rows n head k p ≡ false
      → (refused 27 ≡ answer_in (fit_refusal rows n head k p) bytes room) × (replicate room 0 ≡ buffer_in (fit_refusal rows n head k p) bytes room)
  unfolding fit_refusal
  fit-no e = rw e (answer-refused bytes room 27 (λ q. omega (arith, q)))

  pub fit-yes : stored_fits rows n head k p ≡ true → (r : Built) (b : List ℕ) → (r ≡ answer_in 0 bytes room) × (b ≡ buffer_in 0 bytes room)
      → (r ≡ answer_in (fit_refusal rows n head k p) bytes room) × (b ≡ buffer_in (fit_refusal rows n head k p) bytes room)
  unfolding fit_refusal
  fit-yes e r b a = rw e a

-- the sizes are small
pub size_small : (h k : ℕ) → h < 256 → k ≤ 1024 → (h + 1) * (1 + k) ≤ 262400
size_small h k a b =
    let d : h + 1 ≤ most_states = omega arith in
    omega (arith, mul-le-mul_right (1 + k) d)

pub one_more : (r h : ℕ) → r ≡ h → r + 1 ≡ suc h
one_more r h e = omega (arith, e)
