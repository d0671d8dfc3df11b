-- What a source has left to give.
-- Assumes nothing.
use Rattle.std.specs.Prelude.{ℕ, List, Option, None}
use Rattle.program_system.specs.declared.Source.{Source}
use Rattle.program_system.specs.declared.Source.TheVariants.{Input, Spent, File}

-- the bytes of standard input or of the file, where they are known
abbrev pub source_remaining : {I F : Type 0} → (I → Option (List ℕ)) → (F → Option (List ℕ)) → Source I F → Option (List ℕ)
source_remaining input file (Input i) = input i
source_remaining input file Spent = None
source_remaining input file (File f) = file f
