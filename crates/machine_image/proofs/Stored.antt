-- Reading what was written: the machine in the image of a machine of the table's form is that machine, and the image's form
-- is right.
use Prim.Native.Nat.{ℕ, suc, ◌+◌, ◌*◌, ◌/◌, ◌%◌, ◌<◌}
use mathlib.Core.Path.{◌≡◌, refl, sym, ap, ◌∙◌}
use mathlib.Core.Bool.{true}
use mathlib.Core.List.{List, [], ◌∷◌, ◌++◌, append_assoc}
use lib.ListN.{length, get_or, take, drop, length-append, get_or-append}
use lib.Seq.{get_or_at, get_or-append-add, take_at}
use native.Mathlib.Nat.{zero-add}
use native.Mathlib.Omega.{arith}
use Rattle.base_lists.proofs.Tabulated.{tabulate-entries}
use Rattle.base_lists.proofs.Each.{each-length, each_at}
use Rattle.base_lists.specs.Lists.{tabulate, each}
use Rattle.theory_resolution.specs.Table.{Table, place}
use Rattle.theory_resolution.specs.Direct.{Open}
use Rattle.theory_resolution.specs.Nodes.{nodes}
use Rattle.theory_resolution.specs.Symbols.{symbols}
use Rattle.theory_resolution.specs.Machine.{Machine, blank, machine_state, target, signal_at}
use Rattle.machine_image.specs.Image.{stored_symbols, status_byte, status_bytes, state_bytes, image_of, symbol_count, state_count, signal_in, byte_in}
use Rattle.machine_image.specs.Image.{target_in, status_of, status_in, state_in, machine_in}
use Rattle.machine_image.specs.Refusals.{status_formed}
use Rattle.machine_image.specs.Storable.{Storable}
use Rattle.machine_image.proofs.Joined.{stored-length}
use Rattle.machine_image.proofs.Statuses.{bytes-length, bytes-at, status-read, status-formed}
use Rattle.machine_image.proofs.Form.{Formed}

module _ (T : Table) (m : Machine) where
  abbrev count : ℕ
  count = length (symbols T)

  -- what stands before the state count
  abbrev front : List ℕ
  front = count ∷ stored_symbols T

  pub image-parts : image_of T m ≡ front ++ length m % 256 ∷ length m / 256 ∷ each (state_bytes (nodes T)) m
  unfolding image_of
  image-parts = append_assoc front (length m % 256 ∷ length m / 256 ∷ []) (each (state_bytes (nodes T)) m)

  front_length : length front ≡ 3 * count + 1
  front_length = omega (arith, stored-length T)

  pub image-symbols : symbol_count (image_of T m) ≡ count
  unfolding image_of
  image-symbols = refl

  -- the state count, its low byte first
  pub image-low : get_or (image_of T m) (3 * count + 1) 0 ≡ length m % 256
  image-low = rw image-parts (get_or_at front (length m % 256) (length m / 256 ∷ each (state_bytes (nodes T)) m) 0 (3 * count + 1) front_length)

  pub image-high : get_or (image_of T m) (3 * count + 2) 0 ≡ length m / 256
  image-high = rw (image-parts, place) (get_or-append-add front (length m % 256 ∷ length m / 256 ∷ each (state_bytes (nodes T)) m) 1 0)
    where
      place : 3 * count + 2 ≡ length front + 1
      place = omega (arith, front_length)

  pub image-states : state_count (image_of T m) ≡ length m
  image-states = rw image-symbols (omega (arith, image-low, image-high))

  -- byte i after the state count
  rows_at : (i : ℕ) → get_or (image_of T m) (3 + 3 * count + i) 0 ≡ get_or (each (state_bytes (nodes T)) m) i 0
  rows_at i = rw (image-parts, place) (get_or-append-add front (length m % 256 ∷ length m / 256 ∷ each (state_bytes (nodes T)) m) (suc (suc i)) 0)
    where
      place : 3 + 3 * count + i ≡ length front + suc (suc i)
      place = omega (arith, front_length)

module _ (T : Table) (m : Machine) (ok : Storable T m) where
  -- a state's bytes
  abbrev width : ℕ
  width = count T m + T.cats + 1

  state-width : (j : ℕ) → j < length m → length (state_bytes (nodes T) (machine_state m j)) ≡ width
  state-width j h =
      omega (
        arith,
        length-append (status_bytes (nodes T) 0 (machine_state m j).pair.status) (machine_state m j).row,
        bytes-length (nodes T) 0 (machine_state m j).pair.status,
        ok.status-length j h,
        ok.row-length j h,
      )

  -- byte k of state j
  pub state-byte : (j k : ℕ) → j < length m → k < width
      → get_or (image_of T m) (3 + 3 * count T m + (j * width + k)) 0 ≡ get_or (state_bytes (nodes T) (machine_state m j)) k 0
  state-byte j k h i =
      rows_at T m (j * width + k)
      ∙ each_at (state_bytes (nodes T)) width blank m state-width j k h i

  pub image-signal : (j : ℕ) → j < length m → signal_in T.cats (image_of T m) j ≡ signal_at m j
  image-signal j h = rw (image-symbols T m, at_place) (state-byte j 0 h (omega arith))
    where
      at_place : 3 + 3 * count T m + j * width ≡ 3 + 3 * count T m + (j * width + 0)
      at_place = omega arith

  pub image-byte : (j c : ℕ) → j < length m → c < T.cats → byte_in T.cats (image_of T m) j c
      ≡ status_byte (nodes T) c (get_or (machine_state m j).pair.status c Open)
  image-byte j c h i =
      rw (image-symbols T m, at_place) (state-byte j (suc c) h (omega arith))
      ∙ get_or-append (status_bytes (nodes T) 0 (machine_state m j).pair.status) (machine_state m j).row 0 c (omega (
        arith,
        bytes-length (nodes T) 0 (machine_state m j).pair.status,
        ok.status-length j h,
      ))
      ∙ bytes-at (nodes T) 0 (machine_state m j).pair.status c (omega (arith, ok.status-length j h))
      ∙ ap (λ z. status_byte (nodes T) z (get_or (machine_state m j).pair.status c Open)) (zero-add c)
    where
      at_place : 3 + 3 * count T m + j * width + 1 + c ≡ 3 + 3 * count T m + (j * width + suc c)
      at_place = omega arith

  pub image-target : (j k : ℕ) → j < length m → k < count T m → target_in T.cats (image_of T m) j k ≡ target m j k
  image-target j k h i =
      rw (image-symbols T m, at_place) (state-byte j (suc (T.cats + k)) h (omega arith))
      ∙ ap (λ z. get_or (status_bytes (nodes T) 0 (machine_state m j).pair.status ++ (machine_state m j).row) z 0) past
      ∙ get_or-append-add (status_bytes (nodes T) 0 (machine_state m j).pair.status) (machine_state m j).row k 0
    where
      at_place : 3 + 3 * count T m + j * width + 1 + T.cats + k ≡ 3 + 3 * count T m + (j * width + suc (T.cats + k))
      at_place = omega arith

      past : T.cats + k ≡ length (status_bytes (nodes T) 0 (machine_state m j).pair.status) + k
      past = omega (arith, bytes-length (nodes T) 0 (machine_state m j).pair.status, ok.status-length j h)

  image-state : (j : ℕ) → j < length m → state_in T (image_of T m) j ≡ machine_state m j
  image-state j h = λ i. record { pair = record { signal = image-signal j h i; status = status i }; row = row i }
    where
      status : tabulate (status_in T (image_of T m) j) T.cats ≡ (machine_state m j).pair.status
      status =
          tabulate-entries Open (machine_state m j).pair.status (status_in T (image_of T m) j) T.cats (ok.status-length j h)
          (λ c i. ap (status_of (nodes T)) (image-byte j c h i) ∙ status-read T c (place T (signal_at m j) c)
          (get_or (machine_state m j).pair.status c Open) (ok.status-fits j c h i))

      row : tabulate (target_in T.cats (image_of T m) j) (symbol_count (image_of T m)) ≡ (machine_state m j).row
      row =
          tabulate-entries 0 (machine_state m j).row (target_in T.cats (image_of T m) j) (symbol_count (image_of T m))
          (ok.row-length j h ∙ sym (image-symbols T m)) (λ k i. image-target j k h (rw (image-symbols T m) at i))

  -- the machine in the image is the one that it was made of
  pub image-machine : machine_in T (image_of T m) ≡ m
  unfolding machine_in
  image-machine =
      tabulate-entries blank m (state_in T (image_of T m)) (state_count (image_of T m)) (sym (image-states T m))
      (λ j h. image-state j (rw (image-states T m) at h))

  pub image-length : length (image_of T m) ≡ 3 + 3 * count T m + length m * width
  image-length =
      rw (image-parts T m)
      (omega (arith, length-append (front T m) (length m % 256 ∷ length m / 256 ∷ each (state_bytes (nodes T)) m), front_length T m, rows))
    where
      rows : length (each (state_bytes (nodes T)) m) ≡ length m * width
      rows = each-length (state_bytes (nodes T)) width blank m state-width

  at : (j : ℕ) → j < length m
      → (signal_in T.cats (image_of T m) j < length T.signals)
      × ((c : ℕ) → c < T.cats → status_formed T.cats T (image_of T m) j c ≡ true)
      × ((k : ℕ) → k < count T m → target_in T.cats (image_of T m) j k < length m)
  at j h = (
    rw (image-signal j h) (ok.signal-listed j h),
    λ c i.
        rw (image-signal j h, image-byte j c h i)
        (status-formed T c (place T (signal_at m j) c) (get_or (machine_state m j).pair.status c Open) (ok.status-fits j c h i)),
    λ k i. rw (image-target j k h i) (ok.leads j k h i),
  )

  same-symbols : take (3 * symbol_count (image_of T m)) (drop 1 (image_of T m)) ≡ stored_symbols T
  same-symbols =
      rw (image-symbols T m)
      (ap (λ l. take (3 * count T m) (drop 1 l)) (image-parts T m)
      ∙ take_at (stored_symbols T) (length m % 256 ∷ length m / 256 ∷ each (state_bytes (nodes T)) m) (3 * count T m) (stored-length T))

  -- the image's form is right
  pub image-formed : Formed T (image_of T m)
  image-formed =
      record {
        counts-fit = rw (image-symbols T m, image-length) (omega arith);
        length-right = rw (image-states T m, image-symbols T m) image-length;
        symbols-right = same-symbols;
        some-state = rw (image-states T m) ok.some-state;
        few-states = rw (image-states T m) ok.few-states;
        signal-listed = λ j h. (at j (rw (image-states T m) at h)).0;
        status-formed = λ j c h i. (at j (rw (image-states T m) at h)).1 c i;
        leads = λ j k h i. rw (image-states T m) ((at j (rw (image-states T m) at h)).2 k (rw (image-symbols T m) at i));
      }
