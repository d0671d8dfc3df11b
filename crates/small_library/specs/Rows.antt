-- The rows of an image, and what is known of an image that was judged.
use Rattle.std.specs.Prelude.{ℕ, ◌+◌, ◌*◌, ◌≡◌, List, take, drop, Result, Ok, Err}
use Rattle.table_decode.specs.Tables.{table_of}
use Rattle.machine_image.specs.Image.{symbol_count, state_count}
use Rattle.machine_library.specs.Built.{check_from}
use Rattle.theory_minimal.specs.Machine.{Machine}
use Rattle.small_rounds.specs.Stored.{stored_machine}
use Rattle.base_numbers.specs.Refusals.{refusal_number}
use Rattle.base_numbers.specs.declared.refusal.Refusal.{Refusal}

-- what stands before the state count
abbrev pub front_of : List ℕ → List ℕ
front_of im = take (1 + 3 * symbol_count im) im

-- the states' bytes
abbrev pub rows_of : List ℕ → List ℕ
rows_of im = drop (3 + 3 * symbol_count im) im

-- the machine in them, with so many bytes before a state's targets
abbrev pub machine_by : List ℕ → ℕ → Machine
machine_by im head = stored_machine (rows_of im) (state_count im) head (symbol_count im)

-- the bytes before a state's targets where the checker accepts: the signal and the statuses; else the checker's number
abbrev pub Judges : List ℕ → List ℕ → Result ℕ Refusal → Type 0
Judges t im (Ok head) = (check_from t im ≡ 0) × (head ≡ 1 + (table_of t).cats)
Judges t im (Err k) = refusal_number k ≡ check_from t im
