-- The machine in rows with their counts.
use Rattle.std.specs.Prelude.{Bool}
use Rattle.theory_minimal.specs.Machine.{Machine}
use Rattle.small_rounds.specs.Stored.{stored_machine, is_stored}
use Rattle.small_rounds.specs.declared.stored.Rows.{Rows}

abbrev pub machine_in : Rows → Machine
machine_in r = stored_machine r.bytes.now r.states r.head r.symbols

-- there is one
abbrev pub has_machine : Rows → Bool
has_machine r = is_stored r.bytes.now r.states r.head r.symbols
