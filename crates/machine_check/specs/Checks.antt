-- The form of an image and the checker's answer, over the arrays and numbers that stand for a table.
use Rattle.std.specs.Prelude.{ℕ, ◌+◌, ◌*◌, ◌<◌, ◌≡◌, Bool, cond, ◌&&◌, List, eqb, ltb, leb, get_or, length, take, drop}
use Rattle.std.specs.Prelude.{Result, Ok, Err}
use Rattle.base_numbers.specs.Numbers.{most_categories, most_states, most_symbols}
use Rattle.base_numbers.specs.Refusals.{refusal_number}
use Rattle.base_numbers.specs.declared.refusal.Refusal.{Refusal}
use Rattle.base_numbers.specs.declared.refusal.Refusal.TheVariants.{ImageBadForm, ImageWrongStart, ImageWrongTarget}
use Rattle.base_lists.specs.Numbers.{word_of}
use Rattle.base_lists.specs.Lists.{tabulate, all_below}
use Rattle.theory_resolution.specs.Names.{same_name}
use Rattle.node_step.specs.StatusByte.{same_packed}
use Rattle.node_step.specs.declared.stored.Packed.{Packed}
use Rattle.machine_image.specs.Image.{symbol_count, state_count, place_of, signal_in, byte_in, target_in}
use Rattle.machine_symbols.specs.Steps.{begin}

-- over where any byte of an image stands: with 255 symbols, 65,535 states and 8 categories it has 17,302,008 bytes
abbrev pub image_bound : ℕ
image_bound = 18000000

-- state j of an image
abbrev pub packed_in : ℕ → List ℕ → ℕ → Packed
packed_in cats im j = record { signal = signal_in cats im j; statuses = word_of im (place_of cats im j + 1) cats }

-- some states of an image, from the first on
pub record Read (cats : ℕ) (im : List ℕ) (states : List Packed) : Type 0 where
  pub held : (j : ℕ) → j < length states → get_or states j begin ≡ packed_in cats im j

-- state j that has its statuses from a list, and its signal from an image
abbrev pub state_with : ℕ → List ℕ → List ℕ → ℕ → Packed
state_with cats im statuses j = record { signal = signal_in cats im j; statuses = get_or statuses j 0 }

-- as many of these as the list is long
abbrev pub states_with : ℕ → List ℕ → List ℕ → List Packed
states_with cats im statuses = tabulate (state_with cats im statuses) (length statuses)

-- the statuses of some states of an image, from the first on
pub record ReadStatuses (cats : ℕ) (im : List ℕ) (statuses : List ℕ) : Type 0 where
  pub held : (j : ℕ) → j < length statuses → get_or statuses j 0 ≡ (packed_in cats im j).statuses

-- the byte of category c in state j is one that it can have there, by a test of signal, category and byte
abbrev pub status_formed_by : (ℕ → ℕ → ℕ → Bool) → ℕ → List ℕ → ℕ → ℕ → Bool
status_formed_by fits cats im j c = fits (signal_in cats im j) c (byte_in cats im j c)

-- the target of state j for symbol k is a state
abbrev pub below_by : ℕ → List ℕ → ℕ → ℕ → Bool
below_by cats im j k = ltb (target_in cats im j k) (state_count im)

-- the form of state j, and of the image, by that test and the numbers of signals and categories
unfoldable pub state_formed_by : (ℕ → ℕ → ℕ → Bool) → ℕ → ℕ → List ℕ → ℕ → Bool
state_formed_by fits signals cats im j =
    ltb (signal_in cats im j) signals
    && (all_below cats (status_formed_by fits cats im j)
    && all_below (symbol_count im) (below_by cats im j))

unfoldable pub form_by : (ℕ → ℕ → ℕ → Bool) → List ℕ → ℕ → ℕ → ℕ → List ℕ → Bool
form_by fits sy count signals cats im =
    leb cats most_categories
    && (leb count most_symbols
    && (leb (3 + 3 * symbol_count im) (length im)
    && (eqb (length im) (place_of cats im (state_count im))
    && (same_name (take (3 * symbol_count im) (drop 1 im)) (take (3 * count) (drop 0 sy))
    && (leb 1 (state_count im)
    && (leb (state_count im) most_states
    && all_below (state_count im) (state_formed_by fits signals cats im)))))))

-- the target of state j for symbol k is the right state; so are all; and what the checker answers
unfoldable pub target_right_by : (Packed → ℕ → Packed) → ℕ → List ℕ → ℕ → ℕ → Bool
target_right_by next cats im j k = same_packed (packed_in cats im (target_in cats im j k)) (next (packed_in cats im j) k)

unfoldable pub row_right_by : (Packed → ℕ → Packed) → ℕ → ℕ → List ℕ → ℕ → Bool
row_right_by next count cats im j = all_below count (target_right_by next cats im j)

unfoldable pub check_by : (ℕ → ℕ → ℕ → Bool) → (Packed → ℕ → Packed) → List ℕ → ℕ → ℕ → ℕ → List ℕ → Result (Unit {0}) Refusal
check_by fits next sy count signals cats im =
    cond (form_by fits sy count signals cats im)
    (cond (same_packed (packed_in cats im 0) begin)
    (cond (all_below (state_count im) (row_right_by next count cats im)) (Ok tt) (Err ImageWrongTarget)) (Err ImageWrongStart)) (Err ImageBadForm)

-- its number: 0 if the image is accepted
abbrev pub check_number : Result (Unit {0}) Refusal → ℕ
check_number (Ok u) = 0
check_number (Err r) = refusal_number r
