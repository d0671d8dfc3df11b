-- What holds of small images: where everything stands, that they are of right form, and what their walks say.
use Rattle.std.specs.Prelude.{ℕ, ◌+◌, ◌*◌, ◌/◌, ◌%◌, ◌≤◌, ◌<◌, ◌≡◌, true, List, ◌++◌, length, get_or, take, drop}
use Rattle.std.proofs.Math.Option.{Option}
use Rattle.base_numbers.specs.Numbers.{most_states}
use Rattle.theory_resolution.specs.Names.{Parts}
use Rattle.theory_resolution.specs.Table.{Urn, Table, most_parts}
use Rattle.theory_resolution.specs.Direct.{direct, used_of, step_uri, changes}
use Rattle.theory_resolution.specs.Says.{Says, Given}
use Rattle.theory_resolution.specs.Symbols.{symbols}
use Rattle.machine_image.specs.Image.{stored_symbols, signal_in}
use Rattle.machine_image.specs.Walk.{walk_signal}
use Rattle.theory_minimal.specs.Machine.{Machine, Formed}
use Rattle.small_image.specs.Small.{small_image, small_form, small_step, small_signal}
use Rattle.small_image.specs.Numbers.{small_of}

-- a machine that a small image can hold: 1 to 256 states with signals of the table, and one target for each of its symbols
pub record SmallFits (T : Table) (m : Machine) : Type 0 where
  pub formed : Formed m
  pub few : m.states ≤ most_states
  pub symbolled : m.symbols ≡ length (symbols T)
  pub listed : (c : ℕ) → c < m.states → m.signal c < length T.signals

-- where everything stands in its small image, byte by byte
pub record SmallLayout (T : Table) (m : Machine) : Type 0 where
  -- first the symbol count, then the table's symbols
  pub symbol-count : get_or (small_image T m) 0 0 ≡ length (symbols T)
  pub symbols-next : take (3 * length (symbols T)) (drop 1 (small_image T m)) ≡ stored_symbols T
  -- the state count, its low byte first
  pub low_byte : get_or (small_image T m) (1 + 3 * length (symbols T)) 0 ≡ m.states % 256
  pub high_byte : get_or (small_image T m) (2 + 3 * length (symbols T)) 0 ≡ m.states / 256
  -- state c: its signal, and one target for each symbol
  pub signal : (c : ℕ) → c < m.states → get_or (small_image T m) (3 + 3 * length (symbols T) + c * (length (symbols T) + 1)) 0 ≡ m.signal c
  pub row : (c k : ℕ) → c < m.states → k < length (symbols T)
      → get_or (small_image T m) (4 + 3 * length (symbols T) + c * (length (symbols T) + 1) + k) 0 ≡ m.target c k
  -- and nothing after the states
  pub ends : length (small_image T m) ≡ 3 + 3 * length (symbols T) + m.states * (length (symbols T) + 1)
  -- it is of right form
  pub right-form : small_form T (small_image T m) ≡ true

-- the walk of the small image that an accepted proposal makes of an accepted image, at the point between before and after
pub record SmallClaim (T : Table) (im p : List ℕ) (before after : List (Option Urn)) : Type 0 where
  -- it has the large image's signal
  pub same-signal : small_signal T (small_of T im p) before ≡ walk_signal T im before
  -- and direct resolution's
  pub agrees : small_signal T (small_of T im p) before ≡ (direct T (used_of before)).signal
  -- it says only given URNs or their ancestors
  pub only-given : (c : ℕ) (q : Parts) → Says T (small_signal T (small_of T im p) before) c q → Given (used_of before) c q
  -- what it said it still says
  pub still-says : (c : ℕ) (q : Parts) → Says T (small_signal T (small_of T im p) before) c q → Says T (small_signal T (small_of T im p) (before ++ after)) c q
  -- it changes at most as often as the largest number of parts in one signal
  pub few-changes : changes (signal_in 0 (small_of T im p)) (step_uri (small_step T (small_of T im p))) 0 (before ++ after) ≤ most_parts T.signals
