-- The machine in an image by the numbers of its states and symbols, and the small image that a proposal makes of it.
use Rattle.std.specs.Prelude.{ℕ, List}
use Rattle.theory_resolution.specs.Table.{Table}
use Rattle.machine_image.specs.Image.{symbol_count, state_count, signal_in, target_in}
use Rattle.theory_minimal.specs.Machine.{Machine}
use Rattle.theory_minimal.specs.Proposal.{small}
use Rattle.small_image.specs.Small.{small_image}

-- its states' signals and rows, over this number of categories, without their statuses
abbrev pub numbers_in : ℕ → List ℕ → Machine
numbers_in cats im = record { states = state_count im; symbols = symbol_count im; signal = signal_in cats im; target = target_in cats im }

-- the small image of the smaller machine
unfoldable pub small_of : Table → List ℕ → List ℕ → List ℕ
small_of T im p = small_image T (small (numbers_in T.cats im) p)
