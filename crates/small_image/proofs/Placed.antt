-- Where everything stands in a small image, and that its form is right.
use Prim.Native.Nat.{ℕ, zero, suc, ◌+◌, ◌*◌, ◌/◌, ◌%◌, ◌≤◌, ◌<◌}
use mathlib.Core.Path.{◌≡◌, refl, sym, ap, ◌∙◌}
use mathlib.Core.Bool.{true}
use mathlib.Core.List.{List, [], ◌∷◌, ◌++◌, append_assoc}
use lib.ListN.{length, get_or, take, drop, length-append, get_or-append}
use lib.Seq.{get_or_at, get_or-append-add, take_at}
use native.Mathlib.Decide.{ℕ_discrete}
use native.Mathlib.Nat.{zero-mul, suc-mul}
use native.Mathlib.Omega.{arith}
use Rattle.base_lists.proofs.Numbers.{row_fits}
use Rattle.base_lists.proofs.Tabulated.{tabulate-at, tabulate-length}
use Rattle.theory_resolution.specs.Table.{Table}
use Rattle.theory_resolution.specs.Symbols.{symbols}
use Rattle.machine_image.specs.Image.{stored_symbols, symbol_count, state_count, place_of, signal_in, target_in}
use Rattle.machine_image.proofs.Joined.{stored-length}
use Rattle.theory_minimal.specs.Machine.{Machine}
use Rattle.small_image.specs.Small.{small_bytes, small_states, small_image, small_form}
use Rattle.small_image.specs.Claims.{SmallFits, SmallLayout}
use Rattle.machine_image.proofs.Form.{form-of-over}

-- the states' bytes
module _ (m : Machine) where
  abbrev width : ℕ
  width = m.symbols + 0 + 1

  bytes-length : (c : ℕ) → length (small_bytes m c) ≡ width
  bytes-length c = omega (arith, tabulate-length (m.target c) m.symbols)

  pub states-length : (n : ℕ) → length (small_states m n) ≡ n * width
  unfolding small_states
  states-length zero = sym (zero-mul width)
  states-length (suc n) = length-append (small_states m n) (small_bytes m n) ∙ omega (arith, states-length n, bytes-length n, suc-mul n width)

  -- byte i of state c
  states-at : (n c i : ℕ) → c < n → i < width → get_or (small_states m n) (c * width + i) 0 ≡ get_or (small_bytes m c) i 0
  unfolding small_states
  states-at zero c i h k = absurd (omega arith)
  states-at (suc n) c i h k = go (ℕ_discrete c n) (λ a. states-at n c i a k)
    where
      go : Dec (c ≡ n) → (c < n → get_or (small_states m n) (c * width + i) 0 ≡ get_or (small_bytes m c) i 0)
          → get_or (small_states m n ++ small_bytes m n) (c * width + i) 0 ≡ get_or (small_bytes m c) i 0
      go (yes e) ih =
          ap (λ z. get_or (small_states m n ++ small_bytes m n) (z * width + i) 0) e
          ∙ ap (λ z. get_or (small_states m n ++ small_bytes m n) (z + i) 0) (sym (states-length n))
          ∙ get_or-append-add (small_states m n) (small_bytes m n) i 0
          ∙ sym (ap (λ z. get_or (small_bytes m z) i 0) e)
      go (no e) ih =
          let a : c < n = omega arith in
          get_or-append (small_states m n) (small_bytes m n) 0 (c * width + i) (omega (arith, states-length n, row_fits c n width a)) ∙ ih a

-- the image's parts
module _ (T : Table) (m : Machine) where
  abbrev count : ℕ
  count = length (symbols T)

  -- what stands before the state count
  abbrev front : List ℕ
  front = count ∷ stored_symbols T

  pub image-parts : small_image T m ≡ front ++ m.states % 256 ∷ m.states / 256 ∷ small_states m m.states
  unfolding small_image
  image-parts = append_assoc front (m.states % 256 ∷ m.states / 256 ∷ []) (small_states m m.states)

  front_length : length front ≡ 3 * count + 1
  front_length = omega (arith, stored-length T)

  pub image-symbols : symbol_count (small_image T m) ≡ count
  unfolding small_image
  image-symbols = refl

  image-low : get_or (small_image T m) (3 * count + 1) 0 ≡ m.states % 256
  image-low = rw image-parts (get_or_at front (m.states % 256) (m.states / 256 ∷ small_states m m.states) 0 (3 * count + 1) front_length)

  image-high : get_or (small_image T m) (3 * count + 2) 0 ≡ m.states / 256
  image-high = rw (image-parts, place) (get_or-append-add front (m.states % 256 ∷ m.states / 256 ∷ small_states m m.states) 1 0)
    where
      place : 3 * count + 2 ≡ length front + 1
      place = omega (arith, front_length)

  pub image-states : state_count (small_image T m) ≡ m.states
  image-states = rw image-symbols (omega (arith, image-low, image-high))

  rows_at : (i : ℕ) → get_or (small_image T m) (3 + 3 * count + i) 0 ≡ get_or (small_states m m.states) i 0
  rows_at i = rw (image-parts, place) (get_or-append-add front (m.states % 256 ∷ m.states / 256 ∷ small_states m m.states) (suc (suc i)) 0)
    where
      place : 3 + 3 * count + i ≡ length front + suc (suc i)
      place = omega (arith, front_length)

  image-taken : take (3 * count) (drop 1 (small_image T m)) ≡ stored_symbols T
  image-taken = rw image-parts (take_at (stored_symbols T) (m.states % 256 ∷ m.states / 256 ∷ small_states m m.states) (3 * count) (stored-length T))

  module _ (same : m.symbols ≡ count) where
    pub image-length : length (small_image T m) ≡ place_of 0 (small_image T m) (state_count (small_image T m))
    image-length =
        let e : length (small_image T m) ≡ 3 + 3 * count + m.states * (count + 0 + 1) =
        ap length image-parts
        ∙ length-append front (m.states % 256 ∷ m.states / 256 ∷ small_states m m.states)
        ∙ omega (arith, front_length, states-length m m.states ∙ ap (λ z. m.states * (z + 0 + 1)) same) in
        e ∙ ap (λ z. 3 + 3 * count + z * (count + 0 + 1)) (sym image-states)
        ∙ ap (λ z. 3 + 3 * z + state_count (small_image T m) * (z + 0 + 1)) (sym image-symbols)

    pub image-signal : (c : ℕ) → c < m.states → signal_in 0 (small_image T m) c ≡ m.signal c
    image-signal c h =
        ap (λ z. get_or (small_image T m) (3 + 3 * z + c * (z + 0 + 1)) 0) image-symbols
        ∙ ap (λ z. get_or (small_image T m) (3 + 3 * count + c * (z + 0 + 1)) 0) (sym same)
        ∙ ap (λ z. get_or (small_image T m) z 0) place
        ∙ rows_at (c * width m + 0)
        ∙ states-at m m.states c 0 h (omega arith)
      where
        place : 3 + 3 * count + c * width m ≡ 3 + 3 * count + (c * width m + 0)
        place = omega arith

    pub image-target : (c k : ℕ) → c < m.states → k < m.symbols → target_in 0 (small_image T m) c k ≡ m.target c k
    image-target c k h i =
        ap (λ z. get_or (small_image T m) (3 + 3 * z + c * (z + 0 + 1) + 1 + 0 + k) 0) image-symbols
        ∙ ap (λ z. get_or (small_image T m) (3 + 3 * count + c * (z + 0 + 1) + 1 + 0 + k) 0) (sym same)
        ∙ ap (λ z. get_or (small_image T m) z 0) place
        ∙ rows_at (c * width m + suc k)
        ∙ states-at m m.states c (suc k) h (omega arith)
        ∙ tabulate-at (m.target c) m.symbols k 0 i
      where
        place : 3 + 3 * count + c * width m + 1 + 0 + k ≡ 3 + 3 * count + (c * width m + suc k)
        place = omega arith

module _ (T : Table) (m : Machine) (ok : SmallFits T m) where
  abbrev im : List ℕ
  im = small_image T m

  below : (c k : ℕ) → c < m.states → k < m.symbols → target_in 0 im c k < state_count im
  below c k a b = omega (arith, image-target T m ok.symbolled c k a b, ok.formed.leads c k a b, image-states T m)

  pub image-formed : small_form T im ≡ true
  image-formed =
      form-of-over 0 T im (record {
        counts-fit = long;
        length-right = image-length T m ok.symbolled;
        symbols-right = same;
        some-state = omega (arith, image-states T m, ok.formed.some-state);
        few-states = omega (arith, image-states T m, ok.few);
        signal-listed = λ c h. let a : c < m.states = omega (arith, image-states T m) in omega (arith, image-signal T m ok.symbolled c a, ok.listed c a);
        status-formed = λ c k h i. absurd (omega arith);
        leads = λ c k h i. below c k (omega (arith, image-states T m)) (omega (arith, image-symbols T m, ok.symbolled));
      })
    where
      long : 3 + 3 * symbol_count im ≤ length im
      long = omega (arith, image-length T m ok.symbolled)

      same : take (3 * symbol_count im) (drop 1 im) ≡ stored_symbols T
      same = ap (λ z. take (3 * z) (drop 1 im)) (image-symbols T m) ∙ image-taken T m

  pub small-layout : SmallLayout T m
  small-layout =
      record {
        symbol-count = image-symbols T m;
        symbols-next = image-taken T m;
        low_byte = at (omega arith) ∙ image-low T m;
        high_byte = at (omega arith) ∙ image-high T m;
        signal = λ c h. at (omega arith) ∙ sym (ap (λ z. get_or im (3 + 3 * z + c * (z + 0 + 1)) 0) (image-symbols T m)) ∙ image-signal T m ok.symbolled c h;
        row = λ c k h i.
            at (omega arith) ∙ sym (ap (λ z. get_or im (3 + 3 * z + c * (z + 0 + 1) + 1 + 0 + k) 0) (image-symbols T m))
            ∙ image-target T m ok.symbolled c k h (omega (arith, ok.symbolled));
        ends =
            image-length T m ok.symbolled
            ∙ ap (λ z. 3 + 3 * z + state_count im * (z + 0 + 1)) (image-symbols T m)
            ∙ ap (λ z. 3 + 3 * count T m + z * (count T m + 0 + 1)) (image-states T m)
            ∙ omega arith;
        right-form = image-formed;
      }
    where
      at : {a b : ℕ} → a ≡ b → get_or im a 0 ≡ get_or im b 0
      at e = ap (λ i. get_or im i 0) e
