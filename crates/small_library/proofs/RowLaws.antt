-- The rows of an accepted image hold the machine in it, and what is answered over them is what is answered for the image.
use Prim.Native.Nat.{ℕ, suc, ◌+◌, ◌*◌, ◌≤◌}
use mathlib.Core.Path.{◌≡◌, refl, sym, ap, ap₂, ◌∙◌}
use mathlib.Core.Bool.{true}
use mathlib.Core.List.{List, [], ◌∷◌}
use lib.ListN.{length, get_or, take, drop, length-drop}
use lib.Seq.{get_or-drop}
use native.Mathlib.Omega.{arith}
use Rattle.base_numbers.specs.Numbers.{most_symbols}
use Rattle.theory_resolution.specs.Table.{Table}
use Rattle.theory_resolution.specs.Symbols.{symbols}
use Rattle.machine_image.specs.Image.{stored_symbols, symbol_count, state_count, place_of, signal_in, target_in}
use Rattle.machine_image.proofs.Form.{Formed, form-symbols}
use Rattle.theory_minimal.specs.Test.{fits, proposed}
use Rattle.small_rounds.specs.Stored.{is_stored, Stored}
use Rattle.small_rounds.proofs.TestLaws.{is-stored}
use Rattle.small_classes.specs.Check.{stored_fits, stored_proposed}
use Rattle.small_image.specs.Small.{small_image}
use Rattle.small_image.specs.Numbers.{numbers_in, small_of}
use Rattle.small_write.specs.Written.{small_by}
use Rattle.small_library.specs.Rows.{front_of, rows_of, machine_by}

module _ (cats : ℕ) (im : List ℕ) where
  abbrev k : ℕ
  k = symbol_count im

  same-signal : (j : ℕ) → get_or (rows_of im) (j * ((1 + cats) + k)) 0 ≡ signal_in cats im j
  same-signal j =
      let e : 3 + 3 * k + j * ((1 + cats) + k) ≡ place_of cats im j = omega arith in
      get_or-drop (3 + 3 * k) im (j * ((1 + cats) + k)) 0 ∙ ap (λ z. get_or im z 0) e

  same_target : (j s : ℕ) → get_or (rows_of im) (j * ((1 + cats) + k) + (1 + cats) + s) 0 ≡ target_in cats im j s
  same_target j s =
      let e : 3 + 3 * k + (j * ((1 + cats) + k) + (1 + cats) + s) ≡ place_of cats im j + 1 + cats + s = omega arith in
      get_or-drop (3 + 3 * k) im (j * ((1 + cats) + k) + (1 + cats) + s) 0 ∙ ap (λ z. get_or im z 0) e

  -- the machine in the rows is the one in the image
  pub machine-same : machine_by im (1 + cats) ≡ numbers_in cats im
  machine-same = λ i. record { states = state_count im; symbols = k; signal = λ j. same-signal j i; target = λ j s. same_target j s i }

module _ (T : Table) (im : List ℕ) (ok : Formed T im) (few-cats : T.cats ≤ 8) (few : length (symbols T) ≤ most_symbols) where
  abbrev head : ℕ
  head = 1 + T.cats

  stored : Stored (rows_of im) (state_count im) head (symbol_count im)
  stored =
      record {
        few = ok.few-states;
        signalled = omega arith;
        narrow = omega (arith, form-symbols T im ok);
        room = omega (arith, length-drop (3 + 3 * symbol_count im) im, ok.length-right);
        formed =
            record {
              some-state = ok.some-state;
              leads = λ j s a b. rw (same_target T.cats im j s) (ok.leads j s a b);
            };
      }

  stored-yes : is_stored (rows_of im) (state_count im) head (symbol_count im) ≡ true
  stored-yes = is-stored (rows_of im) (state_count im) head (symbol_count im) (omega arith) (omega (arith, form-symbols T im ok)) stored

  pub fits-same : (p : List ℕ) → stored_fits (rows_of im) (state_count im) head (symbol_count im) p ≡ fits (numbers_in T.cats im) p
  unfolding stored_fits
  fits-same p = rw stored-yes (ap (λ m. fits m p) (machine-same T.cats im))

  pub proposed-same : stored_proposed (rows_of im) (state_count im) head (symbol_count im) ≡ proposed (numbers_in T.cats im)
  unfolding stored_proposed
  proposed-same = rw stored-yes (ap proposed (machine-same T.cats im))

  -- what stands before the state count is the table's symbol count and its symbols
  front_same : front_of im ≡ length (symbols T) ∷ stored_symbols T
  front_same = go im refl
    where
      go : (l : List ℕ) → im ≡ l → front_of im ≡ length (symbols T) ∷ stored_symbols T
      go [] e = let z : length im ≡ 0 = ap length e in absurd (omega (arith, ok.counts-fit))
      go (x ∷ l) e =
          let n : 1 + 3 * symbol_count im ≡ suc (3 * symbol_count im) = omega arith in
          let a : x ≡ length (symbols T) = sym (ap (λ z. get_or z 0 0) e) ∙ form-symbols T im ok in
          let b : take (3 * symbol_count im) l ≡ stored_symbols T = sym (ap (λ z. take (3 * symbol_count im) (drop 1 z)) e) ∙ ok.symbols-right in
          ap (λ z. take z im) n ∙ ap (take (suc (3 * symbol_count im))) e ∙ ap₂ ◌∷◌ a b

  pub small_same : (p : List ℕ) → small_by (front_of im) (machine_by im head) p ≡ small_of T im p
  unfolding small_by small_of small_image
  small_same p =
      ap (λ m. small_by (front_of im) m p) (machine-same T.cats im)
      ∙ ap (λ f. small_by f (numbers_in T.cats im) p) front_same
