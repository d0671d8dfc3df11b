-- Laws of a list written over the front of another.
use Prim.Native.Nat.{ℕ, suc, ◌<◌, ◌+◌, ◌≤◌, min}
use mathlib.Core.Path.{◌≡◌, ap, ◌∙◌, sym, refl, ap₂}
use mathlib.Core.List.{List, ◌++◌, append-nil, [], ◌∷◌, append_assoc}
use native.Mathlib.Numerals.{add-one}
use native.Mathlib.Omega.{arith}
use lib.ListN.{length, drop_of_length-le, get_or, set, drop, length-append, take, length-drop, length-take}
use lib.Seq.{drop-cons, set_at, length-take-le, take-suc, take_at, drop_at, drop-drop, take-nil, take_all, take-append-le, take-take}
use lib.Dec.{ltb}
use borrow.Author.Tests.{ltb-true, ltb-false}
use Rattle.base_lists.proofs.Bools.{by_test}
use Rattle.base_lists.specs.Lists.{over, tabulate, laid}
use Rattle.base_lists.proofs.Tabulated.{tabulate-length}

module _ (p b : List ℕ) where
  -- a list over one of its length is it
  pub over-all : length p ≡ length b → over p b ≡ p
  unfolding over
  over-all h = ap (λ (t : List ℕ). p ++ t) (drop_of_length-le b {i = length p} (omega arith)) ∙ append-nil p

  -- one store behind what is written
  pub over-set : (a v : ℕ) → length p ≡ a → a < length b → set (over p b) a v ≡ over (p ++ (v ∷ [])) b
  unfolding over
  over-set a v e h =
      ap (λ (t : List ℕ). set (p ++ t) a v) (drop-cons b (length p) 0 (omega arith))
      ∙ set_at p (get_or b (length p) 0) (drop (suc (length p)) b) v a e
      ∙ sym (append_assoc p (v ∷ []) (drop (suc (length p)) b))
      ∙ ap (λ (n : ℕ). (p ++ (v ∷ [])) ++ drop n b) (sym (add-one (length p)) ∙ sym (length-append p (v ∷ [])))

module _ (q b r : List ℕ) (a v : ℕ) (room : a < length b) where
  -- a turn of a loop that stores f 0, f 1, ..
  pub over-tabulate : (f : ℕ → ℕ) (k : ℕ) → r ≡ over (q ++ tabulate f k) b → length q + k ≡ a → v ≡ f k → set r a v ≡ over (q ++ tabulate f (k + 1)) b
  unfolding tabulate
  over-tabulate f k e l g =
      rw (e, add-one, g)
      (over-set (q ++ tabulate f k) b a (f k) (length-append q (tabulate f k) ∙ ap (λ (n : ℕ). length q + n) (tabulate-length f k) ∙ l) room
      ∙ ap (λ (t : List ℕ). over t b) (append_assoc q (tabulate f k) (f k ∷ [])))

  -- a turn of a loop that copies the elements of a list
  pub over-copy : (x : List ℕ) (k : ℕ) → r ≡ over (q ++ take k x) b → length q + k ≡ a → k < length x → v ≡ get_or x k 0
      → set r a v ≡ over (q ++ take (k + 1) x) b
  over-copy x k e l h g =
      rw (e, add-one, g)
      (over-set (q ++ take k x) b a (get_or x k 0) (length-append q (take k x) ∙ ap (λ (n : ℕ). length q + n) (length-take-le k x (omega arith)) ∙ l) room
      ∙ ap (λ (t : List ℕ). over t b) (append_assoc q (take k x) (get_or x k 0 ∷ []) ∙ ap (λ (t : List ℕ). q ++ t) (sym (take-suc x k 0 h))))

-- one store at the front
pub over-one : (r : List ℕ) (a : ℕ) → 1 ≤ length r → set r 0 a ≡ over (a ∷ []) (set r 0 a)
unfolding over
over-one [] a h = absurd (omega arith)
over-one (x ∷ r) a h = refl

module _ (p b : List ℕ) where
  -- nothing over a list is that list
  pub over_none : b ≡ over [] b
  unfolding over
  over_none = refl

  -- the same, with the length named otherwise
  pub over-front : (n : ℕ) → n ≡ length p → p ++ drop n b ≡ over p b
  unfolding over
  over-front n e = ap (λ (k : ℕ). p ++ drop k b) e

  -- the length stays
  pub length_over : length p ≤ length b → length (over p b) ≡ length b
  unfolding over
  length_over h = simp (length-append, length-drop) (omega arith)

  -- a part behind what is written, that was lent
  pub over-lend : (a k : ℕ) (y : List ℕ) → length p ≡ a → length y ≡ k
      → take a (over p b) ++ (y ++ drop k (drop a (over p b))) ≡ over (p ++ y) b
  unfolding over
  over-lend a k y e g =
      rw (take_at p (drop (length p) b) a e, drop_at p (drop (length p) b) a e, drop-drop k (length p) b)
      (sym (append_assoc p y (drop (length p + k) b))
      ∙ ap (λ (n : ℕ). (p ++ y) ++ drop n b) (ap (λ (n : ℕ). length p + n) (sym g) ∙ sym (length-append p y)))

-- nothing over a list, as far as it goes, is that list
pub laid_nil : (b : List ℕ) → b ≡ laid [] b
unfolding laid
laid_nil b = ap (λ (l : List ℕ). l ++ b) (sym (take-nil (length b)))

module _ (p b : List ℕ) where
  -- what is no longer than the list stands whole at its front
  pub laid-fits : length p ≤ length b → laid p b ≡ p ++ drop (length p) b
  unfolding laid
  laid-fits h = ap (λ (l : List ℕ). l ++ drop (length p) b) (take_all (length b) p h)

  -- the length stays
  pub length-laid : length (laid p b) ≡ length b
  unfolding laid
  length-laid = omega (arith, length-append (take (length b) p) (drop (length p) b), length-take (length b) p, length-drop (length p) b)

  -- one store behind what is written
  pub laid-set : (a v : ℕ) → length p ≡ a → a < length b → set (laid p b) a v ≡ laid (p ++ v ∷ []) b
  unfolding laid
  laid-set a v e h =
      ap (λ (l : List ℕ). set l a v) (laid-fits (omega arith))
      ∙ ap (λ (l : List ℕ). set (p ++ l) a v) (drop-cons b (length p) 0 (omega arith))
      ∙ set_at p (get_or b (length p) 0) (drop (suc (length p)) b) v a e
      ∙ sym (append_assoc p (v ∷ []) (drop (suc (length p)) b))
      ∙ ap₂ (λ (l : List ℕ) (n : ℕ). l ++ drop n b) (sym (take_all (length b) (p ++ v ∷ []) (omega (arith, length-append p (v ∷ [])))))
      (sym (add-one (length p)) ∙ sym (length-append p (v ∷ [])))

  -- past the end nothing is written
  pub laid_out : (v : ℕ) → length b ≤ length p → laid p b ≡ laid (p ++ v ∷ []) b
  unfolding laid
  laid_out v h =
      ap₂ ◌++◌ (sym (take-append-le (length b) p (v ∷ []) h))
      (drop_of_length-le b {i = length p} h ∙ sym (drop_of_length-le b {i = length (p ++ v ∷ [])} (omega (arith, length-append p (v ∷ [])))))

-- a turn of a loop that copies the elements of a list as far as there is room
pub laid-copy : (p b r : List ℕ) (i v : ℕ) → r ≡ laid (take i p) b → i < length p → i < length b → v ≡ get_or p i 0 → set r i v ≡ laid (take (i + 1) p) b
laid-copy p b r i v e h k g =
    rw (e, add-one, g)
    (laid-set (take i p) b i (get_or p i 0) (length-take-le i p (omega arith)) k ∙ ap (λ (t : List ℕ). laid t b) (sym (take-suc p i 0 h)))

-- the loop's end: all elements, or all for which there is room
pub laid_done : (p b : List ℕ) (i : ℕ) → i ≤ length p → min (length p) (length b) ≤ i → laid (take i p) b ≡ laid p b
unfolding laid
laid_done p b i h k = by_test (ltb i (length p))
    (λ e.
    let l : length b ≤ i = omega (arith, ltb-true i (length p) e) in
    ap₂ ◌++◌ (take-take (length b) i p l)
    (drop_of_length-le b {i = length (take i p)} (omega (arith, length-take-le i p h)) ∙ sym (drop_of_length-le b {i = length p} (omega arith))))
    (λ e. ap (λ (t : List ℕ). take (length b) t ++ drop (length t) b) (take_all i p (ltb-false i (length p) e)))

-- a list over one of its length, as far as that goes, is it
pub laid-all : (p b : List ℕ) → length p ≡ length b → laid p b ≡ p
laid-all p b e = laid-fits p b (omega arith) ∙ ap (λ (t : List ℕ). p ++ t) (drop_of_length-le b {i = length p} (omega arith)) ∙ append-nil p
