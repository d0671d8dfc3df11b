-- Laws of writing an image: the parts that were lent, and the answer, test by test.
use Prim.Native.Nat.{ℕ, ◌+◌, ◌-◌, ◌*◌, ◌/◌, ◌%◌, ◌≤◌, ◌<◌}
use mathlib.Core.Path.{◌≡◌, sym, ap, ap₂, ◌∙◌}
use mathlib.Core.List.{List, [], ◌∷◌, ◌++◌, append-nil, append_assoc}
use borrow.Author.Tests.{lt-ltb, le-ltb}
use lib.ListN.{length, set, take, drop, replicate, length-append, length-drop, length-replicate, drop_of_length-le}
use lib.Seq.{length-take-le, drop_at, take-append-add}
use native.Mathlib.Omega.{arith}
use borrow.Rule.Slice.PartMut.{put_mid}
use Rattle.base_numbers.specs.Numbers.{most_states}
use Rattle.std.specs.Prelude.{Ok, Err}
use Rattle.base_numbers.specs.declared.refusal.Refusal.{Refusal}
use Rattle.base_numbers.specs.declared.refusal.Refusal.TheVariants.{TooManyStates, ImageNoRoom}
use Rattle.base_lists.proofs.Over.{over-set, over-all}
use Rattle.base_lists.specs.Lists.{over}
use Rattle.node_step.specs.declared.stored.Packed.{Packed}
use Rattle.machine_build.specs.States.{head_bytes, found, states_bytes, image_by, size_by, built_by, buffer_by, Told}

-- a part lent up to the end
lend-end : (b y : List ℕ) (f : ℕ) → f ≤ length b → length y ≡ length b - f → put_mid f (length b - f) b y ≡ take f b ++ y
lend-end b y f h e =
    ap (λ z. take f b ++ (y ++ z)) (drop_of_length-le (drop f b) {i = length b - f} (omega (arith, length-drop f b)))
    ∙ ap (λ z. take f b ++ z) (append-nil y)

-- the rows lent first, then the head, then the rest
module _ (b y h z : List ℕ) (f head size : ℕ) (e : f ≡ head) (low : head ≤ size) (high : size ≤ length b)
    (ly : length y ≡ length (take (length b - f) (drop f b))) (lh : length h ≡ head) where
  abbrev both : List ℕ
  both = h ++ drop head (put_mid f (length b - f) b y)

  long-y : length y ≡ length b - f
  long-y = ly ∙ length-take-le (length b - f) (drop f b) (omega (arith, length-drop f b))

  second : both ≡ h ++ y
  second =
      ap (λ w. h ++ drop head w) (lend-end b y f (omega arith) long-y)
      ∙ ap (λ w. h ++ w) (drop_at (take f b) y head (length-take-le f b (omega arith) ∙ e))

  whole : length both ≡ length b
  whole = ap length second ∙ length-append h y ∙ omega (arith, long-y)

  pub three-lent : z ≡ replicate (length (take (length both - size) (drop size both))) 0
      → put_mid size (length both - size) both z ≡ h ++ take (size - head) y ++ replicate (length b - size) 0
  three-lent ez =
      lend-end both z size (omega (arith, whole)) (ap length ez ∙ length-replicate (length (take (length both - size) (drop size both))) 0 ∙ left)
      ∙ ap₂ ◌++◌ (ap₂ take (the (size ≡ length h + (size - head)) (omega arith)) second ∙ take-append-add h y (size - head))
      (ez ∙ ap (λ k. replicate k 0) (left ∙ ap (λ k. k - size) whole))
    where
      the : (A : Type 0) → A → A
      the A x = x

      left : length (take (length both - size) (drop size both)) ≡ length both - size
      left = length-take-le (length both - size) (drop size both) (omega (arith, length-drop size both))

-- the answer
module _ (next : Packed → ℕ → Packed) (cats count : ℕ) (room : ℕ) where
  pub build-many : most_states < length (found next count most_states) → {r : Refusal} → r ≡ TooManyStates → Err r ≡ built_by next cats count room
  unfolding built_by
  build-many h e = let a = lt-ltb most_states (length (found next count most_states)) h in ap Err e ∙ sym (rw a)

  module _ {part part' : List ℕ} {n : ℕ} (d : Told next cats count part part' n) where
    few : length (found next count most_states) ≤ most_states
    few = omega (arith, d.all-found, d.few)

    sized : 3 + 3 * count + n * (count + cats + 1) ≡ size_by next cats count
    sized = ap (λ z. 3 + 3 * count + z * (count + cats + 1)) d.all-found

    pub build-short : room < 3 + 3 * count + n * (count + cats + 1) → Err ImageNoRoom ≡ built_by next cats count room
    unfolding built_by
    build-short k =
        let a = le-ltb most_states (length (found next count most_states)) few in
        let b = lt-ltb room (size_by next cats count) (omega (arith, sized)) in
        sym (rw (a, b))

    pub build-done : 3 + 3 * count + n * (count + cats + 1) ≤ room → Ok (3 + 3 * count + n * (count + cats + 1)) ≡ built_by next cats count room
    unfolding built_by
    build-done k =
        let a = le-ltb most_states (length (found next count most_states)) few in
        let b = le-ltb room (size_by next cats count) (omega (arith, sized)) in
        ap Ok sized ∙ sym (rw (a, b))

    -- the buffer, from the head and the rows
    pub image-done : (sy h : List ℕ) → h ≡ head_bytes sy count n → n * (count + cats + 1) ≤ length part
        → h ++ take (n * (count + cats + 1)) part' ++ replicate (room - (3 + 3 * count + n * (count + cats + 1))) 0 ≡ buffer_by next cats count sy room
    unfolding buffer_by image_by
    image-done sy h e w =
        ap₂ ◌++◌
        (ap₂ ◌++◌ (e ∙ ap (head_bytes sy count) d.all-found) (d.rows w ∙ ap (states_bytes next cats count (found next count most_states)) d.all-found))
        (ap (λ z. replicate (room - z) 0) sized)

pub head-length : (sy : List ℕ) (count n : ℕ) → 3 * count ≤ length sy → length (head_bytes sy count n) ≡ 3 + 3 * count
head-length sy count n h =
    length-append (count ∷ take (3 * count) sy) (n % 256 ∷ n / 256 ∷ []) ∙ omega (arith, length-take-le (3 * count) sy h)

-- the head, byte by byte and the symbols at once
pub head-put : (head y : List ℕ) (count lo hi : ℕ) {k i j : ℕ} → length head ≡ 3 + length y → k ≡ length y → i ≡ 1 + length y → j ≡ 2 + length y
    → set (set (put_mid 1 k (set head 0 count) y) i lo) j hi ≡ count ∷ y ++ lo ∷ hi ∷ []
unfolding over
head-put [] y count lo hi l e f g = absurd (omega arith)
head-put (x ∷ head) y count lo hi {k} {i} {j} l e f g =
    ap (λ z. set (set (put_mid 1 z (count ∷ head) y) i lo) j hi) e
    ∙ ap (λ z. set z j hi) (over-set (count ∷ y) (count ∷ head) i lo (omega arith) (omega arith))
    ∙ over-set (count ∷ y ++ lo ∷ []) (count ∷ head) j hi (length-append (count ∷ y) (lo ∷ []) ∙ omega arith) (omega arith)
    ∙ over-all (count ∷ y ++ lo ∷ [] ++ hi ∷ []) (count ∷ head)
    (length-append (count ∷ y ++ lo ∷ []) (hi ∷ []) ∙ omega (arith, length-append (count ∷ y) (lo ∷ [])))
    ∙ append_assoc (count ∷ y) (lo ∷ []) (hi ∷ [])

-- the whole buffer, where the rows, the head and the zeros were lent one after the other
module _ (next : Packed → ℕ → Packed) (cats count : ℕ) (sy b y h z : List ℕ) (f n : ℕ) where
  abbrev size : ℕ
  size = 3 + 3 * count + n * (count + cats + 1)

  pub buffer-done : Told next cats count (take (length b - f) (drop f b)) y n → length y ≡ length (take (length b - f) (drop f b)) → f ≡ 3 + 3 * count → size ≤ length b
      → h ≡ head_bytes sy count n → 3 * count ≤ length sy
      → z ≡ replicate (length (take (length (h ++ drop (3 + 3 * count) (put_mid f (length b - f) b y)) - size) (drop size (h ++ drop (3 + 3 * count) (put_mid f (length b - f) b y))))) 0
      → put_mid size (length (h ++ drop (3 + 3 * count) (put_mid f (length b - f) b y)) - size) (h ++ drop (3 + 3 * count) (put_mid f (length b - f) b y)) z
      ≡ buffer_by next cats count sy (length b)
  buffer-done d ly e high eh w ez =
      let k : size - (3 + 3 * count) ≡ n * (count + cats + 1) = omega arith in
      let lp : length (take (length b - f) (drop f b)) ≡ length b - f = length-take-le (length b - f) (drop f b) (omega (arith, length-drop f b)) in
      three-lent b y h z f (3 + 3 * count) size e (omega arith) high ly (ap length eh ∙ head-length sy count n w) ez
      ∙ ap (λ q. h ++ take q y ++ replicate (length b - size) 0) k
      ∙ image-done next cats count (length b) d sy h eh (omega (arith, lp))
