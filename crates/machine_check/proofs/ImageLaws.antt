-- Laws of reading and checking an image at a turn of a loop, over plain variables.
use Prim.Native.Nat.{ℕ, suc, ◌+◌, ◌-◌, ◌*◌, ◌^◌, ◌≤◌, ◌<◌, max}
use mathlib.Core.Path.{◌≡◌, refl, sym, ap, ap₂, ◌∙◌, subst}
use mathlib.Core.Bool.{Bool, true, false, ◌&&◌, true≢false}
use mathlib.Core.List.{List}
use lib.Dec.{ltb, leb}
use borrow.Author.Tests.{lt-ltb, le-ltb, leb-true}
use lib.ListN.{length, get_or, take, drop, length-take, get_or-eq_default}
use lib.Seq.{get_or-take, get_or-drop}
use native.Mathlib.Omega.{arith}
use native.Mathlib.Nat.{add-zero, sub-zero, pow-le-pow_right, pow-succ'}
use native.Mathlib.Numerals.{add-one}
use native.Mathlib.Decide.{dec_lt}
use Rattle.base_numbers.specs.Numbers.{most_states, most_symbols}
use Rattle.base_lists.specs.Numbers.{word_of}
use Rattle.base_lists.proofs.Below.{all-to, all_of}
use Rattle.base_lists.proofs.Bools.{same_test}
use Rattle.base_lists.proofs.Tabulated.{tabulate-length, tabulate-at}
use Rattle.base_lists.specs.Lists.{all_below}
use Rattle.node_step.specs.StatusByte.{same_packed}
use Rattle.node_step.specs.declared.stored.Packed.{Packed}
use Rattle.machine_image.specs.Image.{symbol_count, state_count, place_of, signal_in, byte_in, target_in}
use Rattle.machine_symbols.specs.Steps.{begin}
use Rattle.machine_check.specs.Checks.{packed_in, Read, ReadStatuses, state_with, states_with, status_formed_by, below_by, form_by, target_right_by}

pub count-is : (im : List ℕ) {m low high : ℕ} → m ≡ get_or im 0 0 → low ≡ get_or im (3 * m + 1) 0 → high ≡ get_or im (3 * m + 2) 0 → low + 256 * high ≡ state_count im
count-is im e f g =
    let f' = f ∙ ap (λ z. get_or im (3 * z + 1) 0) e in
    let g' = g ∙ ap (λ z. get_or im (3 * z + 2) 0) e in
    omega (arith, f', g')

pub place_is : (im : List ℕ) (cats j : ℕ) {m : ℕ} → m ≡ get_or im 0 0 → 3 + 3 * m + j * (m + cats + 1) ≡ place_of cats im j
place_is im cats j e = ap (λ z. 3 + 3 * z + j * (z + cats + 1)) e

-- bytes in one number, from the last down: the c first of them are left
module _ (im : List ℕ) (i n c x b : ℕ) (h : 0 < c) (k : c ≤ n) (e : x ≡ word_of im (i + c) (n - c)) (f : b ≡ get_or im (i + (c - 1)) 0) where
  pub pack-more : x * 256 + b ≡ word_of im (i + (c - 1)) (n - (c - 1))
  pack-more =
      let y : n - (c - 1) ≡ suc (n - c) = omega arith in
      let z : i + (c - 1) + 1 ≡ i + c = omega arith in
      rw (y, z) (omega (arith, e, f))

pub pack-end : (im : List ℕ) (i n c x : ℕ) → c ≤ 0 → x ≡ word_of im (i + c) (n - c) → x ≡ word_of im i n
pack-end im i n c x h e = let z : c ≡ 0 = omega arith in e ∙ ap (λ y. word_of im (i + y) (n - y)) z ∙ ap₂ (word_of im) (add-zero i) (sub-zero n)

pub pack-none : (im : List ℕ) (i n : ℕ) → 0 ≡ word_of im (i + n) (n - n)
pack-none im i n = let z : n - n ≡ 0 = omega arith in rw z

-- and how large it can be
pub pack-fits : (n c x b : ℕ) → 0 < c → c ≤ n → n ≤ 8 → x < 256 ^ (n - c) → b < 256 → (x * 256 + b < 256 ^ (n - (c - 1))) × (x * 256 + b < 2 ^ 64)
pack-fits n c x b h k l e f =
    let y : n - (c - 1) ≡ suc (n - c) = omega arith in
    let z : x * 256 + b < 256 ^ suc (n - c) = rw (pow-succ' most_states (n - c)) (omega arith) in
    let w : suc (n - c) ≤ 8 = omega arith in
    let v : most_states ^ suc (n - c) ≤ most_states ^ 8 = pow-le-pow_right (omega arith) w in
    (rw y z, omega (arith, z, v))

module _ (im : List ℕ) (cats j : ℕ) {i : ℕ} (e : i ≡ place_of cats im j) where
  pub signal-is : {s : ℕ} → s ≡ get_or im i 0 → s ≡ signal_in cats im j
  signal-is f = f ∙ ap (λ z. get_or im z 0) e

  pub target_is : (k : ℕ) {s : ℕ} → s ≡ get_or im (i + 1 + cats + k) 0 → s ≡ target_in cats im j k
  target_is k f = f ∙ ap (λ z. get_or im (z + 1 + cats + k) 0) e

  pub status-is : (c : ℕ) {s : ℕ} → s ≡ get_or im (i + 1 + c) 0 → s ≡ byte_in cats im j c
  status-is c f = f ∙ ap (λ z. get_or im (z + 1 + c) 0) e

  -- a byte that is tested
  pub test-is : (fits : ℕ → ℕ → ℕ → Bool) {s : ℕ} → s ≡ signal_in cats im j → (c : ℕ) {b : ℕ} {r : Bool} → b ≡ get_or im (i + 1 + c) 0 → r ≡ fits s c b
      → r ≡ status_formed_by fits cats im j c
  test-is fits g c f t = t ∙ ap₂ (λ x y. fits x c y) g (status-is c f)

-- the first n states are read
abbrev pub ReadTo : ℕ → List ℕ → List Packed → ℕ → Type 0
ReadTo cats im states n = (j : ℕ) → j < n → get_or states j begin ≡ packed_in cats im j

-- the statuses of the first n states are read
abbrev pub StatusesTo : ℕ → List ℕ → List ℕ → ℕ → Type 0
StatusesTo cats im statuses n = (j : ℕ) → j < n → get_or statuses j 0 ≡ (packed_in cats im j).statuses

-- where the first n statuses are read, and there are n, so are the first n states that have them
pub states-to : (cats : ℕ) (im statuses : List ℕ) {n : ℕ} → n ≤ length statuses → StatusesTo cats im statuses n
    → ReadTo cats im (states_with cats im statuses) n
states-to cats im statuses h r j l =
    tabulate-at (state_with cats im statuses) (length statuses) j begin (omega (arith, h, l))
    ∙ ap (λ (x : ℕ). record { signal = signal_in cats im j; statuses = x }) (r j l)

-- the same of all of them
pub states-read : (cats : ℕ) (im statuses : List ℕ) → ReadStatuses cats im statuses → Read cats im (states_with cats im statuses)
states-read cats im statuses r = record {
  held = λ j h.
      states-to cats im statuses (omega arith) r.held j
      (subst (λ n. j < n) (tabulate-length (state_with cats im statuses) (length statuses)) h);
}

-- every byte is one of 256 states
pub below_all : (im : List ℕ) (cats j : ℕ) {n : ℕ} → ((k : ℕ) → get_or im k 0 < 256) → most_states ≤ n → n ≡ state_count im
    → true ≡ all_below (symbol_count im) (below_by cats im j)
below_all im cats j w h g =
    sym (all_of (symbol_count im) (below_by cats im j) (λ k l. lt-ltb (target_in cats im j k) (state_count im) (omega (
      arith,
      w (place_of cats im j + 1 + cats + k),
    ))))

-- a row's targets, by the largest of them
below-max : (a b n : ℕ) → ltb (max a b) n ≡ (ltb a n && ltb b n)
below-max a b n = go (dec_lt a n) (dec_lt b n)
  where
    go : Dec (a < n) → Dec (b < n) → ltb (max a b) n ≡ (ltb a n && ltb b n)
    go (yes p) (yes q) = rw (lt-ltb a n p, lt-ltb b n q) (lt-ltb (max a b) n (omega arith))
    go (yes p) (no q) = rw (lt-ltb a n p, le-ltb b n (omega arith)) (le-ltb (max a b) n (omega arith))
    go (no p) q = rw (le-ltb a n (omega arith)) (le-ltb (max a b) n (omega arith))

module _ (im : List ℕ) (cats j n : ℕ) {i m : ℕ} (e : i ≡ place_of cats im j) (f : m ≡ get_or im 0 0) (g : n ≡ state_count im) {row : List ℕ}
    (h : row ≡ take m (drop (i + 1 + cats) im)) where
  target_at : (x : ℕ) → x < m → get_or row x 0 ≡ target_in cats im j x
  target_at x l = ap (λ z. get_or z x 0) h ∙ get_or-take m (drop (i + 1 + cats) im) x 0 l ∙ get_or-drop (i + 1 + cats) im x 0
      ∙ ap (λ z. get_or im (z + 1 + cats + x) 0) e

  short : length row ≤ m
  short = omega (arith, ap length h ∙ length-take m (drop (i + 1 + cats) im))

  pub most-more : (k most : ℕ) → ltb most n ≡ all_below k (below_by cats im j) → {v : ℕ} → k < length row → v ≡ max most (get_or row k 0)
      → ltb v n ≡ all_below (k + 1) (below_by cats im j)
  unfolding all_below
  most-more k most w l o =
      ap (λ z. ltb z n) o ∙ below-max most (get_or row k 0) n ∙ ap₂ (λ x y. x && y) w (ap₂ ltb (target_at k (omega (arith, short))) g)
      ∙ ap (λ z. all_below z (below_by cats im j)) (sym (add-one k))

  pub most-end : (k most : ℕ) → ltb most n ≡ all_below k (below_by cats im j) → {v : ℕ} → k ≤ length row → length row ≤ k → 0 < n → v ≡ most
      → ltb v n ≡ all_below (symbol_count im) (below_by cats im j)
  most-end k most w a b p o = ap (λ z. ltb z n) o ∙ w ∙ same_test (all_below k (below_by cats im j)) (all_below (symbol_count im) (below_by cats im j)) to of
    where
      past : (x : ℕ) → k ≤ x → x < symbol_count im → below_by cats im j x ≡ true
      past x l o =
          lt-ltb (target_in cats im j x) (state_count im)
          (omega (arith, g, target_at x (omega (arith, f)), get_or-eq_default row 0 {n = x} (omega arith)))

      to : all_below k (below_by cats im j) ≡ true → all_below (symbol_count im) (below_by cats im j) ≡ true
      to t = all_of (symbol_count im) (below_by cats im j) (λ x l. by x l (dec_lt x k))
        where
          by : (x : ℕ) → x < symbol_count im → Dec (x < k) → below_by cats im j x ≡ true
          by x l (yes q) = all-to k (below_by cats im j) t x q
          by x l (no q) = past x (omega arith) l

      of : all_below (symbol_count im) (below_by cats im j) ≡ true → all_below k (below_by cats im j) ≡ true
      of t = all_of k (below_by cats im j) (λ x l. all-to (symbol_count im) (below_by cats im j) t x (omega (arith, short, f)))

-- an image of right form has at most 8 categories and 128 symbols
pub form-few : (fits : ℕ → ℕ → ℕ → Bool) (sy : List ℕ) (count signals cats : ℕ) (im : List ℕ) {b : Bool}
    → b ≡ form_by fits sy count signals cats im → b ≡ true → (cats ≤ 8) × (count ≤ most_symbols)
unfolding form_by
form-few fits sy count signals cats im e h = go (leb cats 8) refl (leb count most_symbols) refl
  where
    go : (x : Bool) → leb cats 8 ≡ x → (y : Bool) → leb count most_symbols ≡ y → (cats ≤ 8) × (count ≤ most_symbols)
    go true f true g = (leb-true cats 8 f, leb-true count most_symbols g)
    go true f false g = absurd (true≢false (sym h ∙ e ∙ rw (f, g)))
    go false f y g = absurd (true≢false (sym h ∙ e ∙ rw f))

-- rows
module _ (next : Packed → ℕ → Packed) (im : List ℕ) (cats j : ℕ) {i : ℕ} {p : Packed} (e : i ≡ place_of cats im j)
    (f : p ≡ packed_in cats im j) (k : ℕ) {t : ℕ} {q : Packed} {b : Bool}
    (g : t ≡ get_or im (i + 1 + cats + k) 0) (h : q ≡ next p k) (s : b ≡ same_packed (packed_in cats im t) q) where
  pub target-test : b ≡ target_right_by next cats im j k
  unfolding target_right_by
  target-test = s ∙ ap₂ same_packed (ap (packed_in cats im) (target_is im cats j e k g)) (h ∙ ap (λ z. next z k) f)
