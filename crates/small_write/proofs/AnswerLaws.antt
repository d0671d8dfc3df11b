-- Laws of the answer where bytes are asked for in a lent buffer.
use Prim.Native.Nat.{ℕ, ◌+◌, ◌-◌, ◌≤◌, ◌<◌, ◌/◌, ◌%◌}
use mathlib.Core.Path.{◌≡◌, refl, sym, ap, ◌∙◌}
use mathlib.Core.List.{List, [], ◌∷◌, ◌++◌, append_assoc}
use lib.ListN.{length, set, take, drop, replicate, length-append, length-take, length-drop, length-replicate}
use borrow.Author.Tests.{ne_eqb, lt-ltb, le-ltb}
use native.Mathlib.Omega.{arith}
use Rattle.base_bytes.specs.Built.{refused, accepted}
use Rattle.base_lists.proofs.Over.{over-all, over-set, over-front, length_over, over-lend}
use Rattle.base_lists.specs.Lists.{over}
use Rattle.small_write.specs.Answer.{refusal_in, answer_in, buffer_in}

module _ (bytes : List ℕ) (room : ℕ) where
  pub answer-refused : (k : ℕ) → (k ≡ 0 → ⊥) → (refused k ≡ answer_in k bytes room) × (replicate room 0 ≡ buffer_in k bytes room)
  unfolding answer_in buffer_in refusal_in
  answer-refused k h = rw (ne_eqb k 0 h) (rw (ne_eqb k 0 h) (refl, refl))

  pub answer-short : room < length bytes → (refused 14 ≡ answer_in 0 bytes room) × (replicate room 0 ≡ buffer_in 0 bytes room)
  unfolding answer_in buffer_in refusal_in
  answer-short h = rw (lt-ltb room (length bytes) h) (refl, refl)

  pub answer-done : length bytes ≤ room → (accepted (length bytes) ≡ answer_in 0 bytes room)
      × (bytes ++ replicate (room - length bytes) 0 ≡ buffer_in 0 bytes room)
  unfolding answer_in buffer_in refusal_in
  answer-done h = rw (le-ltb room (length bytes) h) (refl, refl)

-- two parts lent one after the other: the bytes, and what is left
pub two-parts : (bytes b h z : List ℕ) (n : ℕ) → n ≡ length bytes → n ≤ length b → h ≡ bytes
    → (b₁ b₂ : List ℕ) → z ≡ replicate (length (take (length b₁ - n) (drop n b₁))) 0 → b₁ ≡ h ++ drop n b
    → b₂ ≡ take n b₁ ++ (z ++ drop (length b₁ - n) (drop n b₁))
    → b₂ ≡ bytes ++ replicate (length b - length bytes) 0
two-parts bytes b h z n n-is fit h-is b₁ b₂ z-is e₁ e₂ =
    let o₁ : b₁ ≡ over bytes b = e₁ ∙ ap (λ x. x ++ drop n b) h-is ∙ over-front bytes b n (omega (arith, n-is)) in
    let b-long : length b₁ ≡ length b = ap length o₁ ∙ length_over bytes b (omega (arith, n-is)) in
    let rest : ℕ = length b₁ - n in
    let part-long : length (take rest (drop n b₁)) ≡ rest = simp (length-take, length-drop) (omega (arith, b-long)) in
    let zeros : List ℕ = replicate rest 0 in
    let z-same : z ≡ zeros = z-is ∙ ap (λ k. replicate k 0) part-long in
    let z-long : length zeros ≡ rest = length-replicate rest 0 in
    let o₂ : b₂ ≡ over (bytes ++ zeros) b =
    e₂ ∙ ap (λ x. take n x ++ (z ++ drop rest (drop n x))) o₁
    ∙ ap (λ x. take n (over bytes b) ++ (x ++ drop rest (drop n (over bytes b)))) z-same
    ∙ over-lend bytes b n rest zeros (sym n-is) z-long in
    o₂ ∙ over-all (bytes ++ zeros) b (length-append bytes zeros ∙ omega (arith, n-is, z-long, b-long))
    ∙ ap (λ x. bytes ++ replicate (length b₁ - x) 0) n-is ∙ ap (λ x. bytes ++ replicate (x - length bytes) 0) b-long

-- the two bytes of a count behind what stands in front
pub head-written : (front head₀ head : List ℕ) (count : ℕ) → length head₀ ≡ length front + 2 → head ≡ over front head₀
    → set (set head (length front) (count % 256)) (length front + 1) (count / 256) ≡ front ++ count % 256 ∷ count / 256 ∷ []
head-written front head₀ head count l g =
    ap (λ x. set (set x (length front) (count % 256)) (length front + 1) (count / 256)) g
    ∙ ap (λ x. set x (length front + 1) (count / 256)) (over-set front head₀ (length front) (count % 256) refl (omega arith))
    ∙ over-set (front ++ count % 256 ∷ []) head₀ (length front + 1) (count / 256) (length-append front (count % 256 ∷ [])) (omega arith)
    ∙ over-all ((front ++ count % 256 ∷ []) ++ count / 256 ∷ []) head₀
    (length-append (front ++ count % 256 ∷ []) (count / 256 ∷ []) ∙ omega (arith, length-append front (count % 256 ∷ [])))
    ∙ append_assoc front (count % 256 ∷ []) (count / 256 ∷ [])
