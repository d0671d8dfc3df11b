-- What the build of a table's machine answers.
use Rattle.std.specs.Prelude.{ℕ}
use Rattle.theory_resolution.specs.Table.{Table}
use Rattle.machine_image.specs.Refusals.{build_refusal, build_length}
use Rattle.base_bytes.specs.declared.Built.{Built}

-- the answer of the build of a table's machine in so much room
abbrev pub built_of : Table → ℕ → Built
built_of T room = record { refusal = build_refusal T room; len = build_length T room }
