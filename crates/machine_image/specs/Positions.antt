-- Where everything stands in an image, byte by byte; which bytes a category can have; where a walk goes; which images are of
-- right form, and what the check says of them. proofs/Positions.antt proves each.
use Rattle.std.specs.Prelude.{ℕ, ◌+◌, ◌*◌, ◌/◌, ◌%◌, ◌≤◌, ◌<◌, ◌≡◌, ◌⊎◌, ◌↔◌, ◌≢◌, true, false, length, get_or}
use Rattle.std.proofs.Math.Option.{Option, none, some}
use mathlib.Core.List.{List, [], ◌∷◌, ◌++◌, Memᴰ}
use Rattle.theory_resolution.specs.Names.{Name, Parts}
use Rattle.theory_resolution.specs.Table.{Urn, Table}
use Rattle.theory_resolution.specs.Direct.{Open, Held, Shut, start}
use Rattle.theory_resolution.specs.Nodes.{nodes, is_node, number}
use Rattle.theory_resolution.specs.Symbols.{symbols, symbol_of, symbol_at, symbol_index, step_at}
use Rattle.theory_resolution.specs.Machine.{Machine, machine_state, target, Accepted, signal_at}
use Rattle.machine_image.specs.Image.{image_of, state_count, signal_in, target_in, machine_in}
use Rattle.machine_image.specs.Storable.{Storable}
use Rattle.machine_image.specs.Refusals.{byte_fits, form_of, check_of}
use Rattle.machine_image.specs.Walk.{walk_in, walk_signal}

-- of a machine of the table's form
pub record LayoutLaw (T : Table) (m : Machine) : Type 0 where
  -- first the symbol count
  pub symbol-count : get_or (image_of T m) 0 0 ≡ length (symbols T)
  -- symbol k: its category, its node's number (0 for the root), 0 for a node and 1 for Other
  pub category : (k : ℕ) → k < length (symbols T) → get_or (image_of T m) (1 + 3 * k) 0 ≡ (symbol_at T k).cat
  pub node : (k : ℕ) → k < length (symbols T) → get_or (image_of T m) (2 + 3 * k) 0 ≡ number (nodes T) (symbol_at T k).cat (symbol_at T k).path
  pub kind-node : (k : ℕ) → k < length (symbols T) → (symbol_at T k).other ≡ false → get_or (image_of T m) (3 + 3 * k) 0 ≡ 0
  pub kind-other : (k : ℕ) → k < length (symbols T) → (symbol_at T k).other ≡ true → get_or (image_of T m) (3 + 3 * k) 0 ≡ 1
  -- the state count, its low byte first
  pub low_byte : get_or (image_of T m) (1 + 3 * length (symbols T)) 0 ≡ length m % 256
  pub high_byte : get_or (image_of T m) (2 + 3 * length (symbols T)) 0 ≡ length m / 256
  -- state j: first its signal, then the byte of each category, then the target for each symbol
  pub signal : (j : ℕ) → j < length m → get_or (image_of T m) (3 + 3 * length (symbols T) + j * (length (symbols T) + T.cats + 1)) 0 ≡ signal_at m j
  pub open-byte : (j c : ℕ) → j < length m → c < T.cats → get_or (machine_state m j).pair.status c Open ≡ Open
      → get_or (image_of T m) (4 + 3 * length (symbols T) + j * (length (symbols T) + T.cats + 1) + c) 0 ≡ 0
  pub shut-byte : (j c : ℕ) → j < length m → c < T.cats → get_or (machine_state m j).pair.status c Open ≡ Shut
      → get_or (image_of T m) (4 + 3 * length (symbols T) + j * (length (symbols T) + T.cats + 1) + c) 0 ≡ 1
  pub held-byte : (j c : ℕ) → j < length m → c < T.cats → (p : Parts) → get_or (machine_state m j).pair.status c Open ≡ Held p
      → get_or (image_of T m) (4 + 3 * length (symbols T) + j * (length (symbols T) + T.cats + 1) + c) 0 ≡ 1 + number (nodes T) c p
  pub row : (j k : ℕ) → j < length m → k < length (symbols T)
      → get_or (image_of T m) (4 + T.cats + 3 * length (symbols T) + j * (length (symbols T) + T.cats + 1) + k) 0 ≡ target m j k
  -- and nothing after the states
  pub ends : length (image_of T m) ≡ 3 + 3 * length (symbols T) + length m * (length (symbols T) + T.cats + 1)

-- a held category's byte at its place p: 1 + n for a node n of the category that has a node under it and lies properly below p
pub record HeldByte (T : Table) (c : ℕ) (p : Parts) (b : ℕ) : Type 0 where
  pub at : Parts
  pub numbered : b ≡ 1 + number (nodes T) c at
  pub a-node : is_node (nodes T) c at ≡ true
  pub goes_on : (x : Name) × (r : Parts) × (is_node (nodes T) c (at ++ x ∷ r) ≡ true)
  pub beyond : (x : Name) × (r : Parts) × (p ++ x ∷ r ≡ at)

-- the bytes that category c can have there, and the test of them
abbrev pub ByteOf : Table → ℕ → Parts → ℕ → Type 0
ByteOf T c p b = (b ≤ 1) ⊎ HeldByte T c p b

abbrev pub ByteLaw : Table → Type 0
ByteLaw T = (c : ℕ) (p : Parts) (b : ℕ) → byte_fits (nodes T) c p b ≡ true ↔ ByteOf T c p b

-- the walk of an image begins in state 0; a used URI leads to what the row of the present state has at its symbol, a
-- skipped one changes nothing, and the signal is the state's
pub record ImageWalkLaw (T : Table) (im : List ℕ) : Type 0 where
  pub at-start : walk_in T im [] ≡ 0
  pub used : (l : List (Option Urn)) (u : Urn) → walk_in T im (l ++ some u ∷ []) ≡ target_in T.cats im (walk_in T im l) (symbol_index (symbol_of (nodes T) u) (symbols T))
  pub skipped : (l : List (Option Urn)) → walk_in T im (l ++ none ∷ []) ≡ walk_in T im l
  pub signal : (l : List (Option Urn)) → walk_signal T im l ≡ signal_in T.cats im (walk_in T im l)

-- an image of bytes is of right form exactly if it is the image of a machine of the table's form: the machine in it
pub record FormLaw (T : Table) (im : List ℕ) : Type 0 where
  pub of-machine : form_of T im ≡ true → ((x : ℕ) → Memᴰ x im → x < 256) → Storable T (machine_in T im) × (image_of T (machine_in T im) ≡ im)
  pub every-machine : (m : Machine) → Storable T m → image_of T m ≡ im → (form_of T im ≡ true) × (machine_in T im ≡ m)

-- what the check says: 15 for a wrong form; else 16 if state 0 is not the start; else 17 if a target has another pair than is due; else 0
pub record CheckLaw (T : Table) (im : List ℕ) : Type 0 where
  pub form-wrong : form_of T im ≡ false → check_of T im ≡ 15
  pub start-wrong : form_of T im ≡ true → (machine_state (machine_in T im) 0).pair ≢ start T.cats → check_of T im ≡ 16
  pub row-wrong : form_of T im ≡ true → (machine_state (machine_in T im) 0).pair ≡ start T.cats
      → (j k : ℕ) → j < state_count im → k < length (symbols T)
      → (machine_state (machine_in T im) (target (machine_in T im) j k)).pair ≢ step_at T (machine_state (machine_in T im) j).pair k → check_of T im ≡ 17
  pub all_right : form_of T im ≡ true → Accepted T (machine_in T im) → check_of T im ≡ 0
