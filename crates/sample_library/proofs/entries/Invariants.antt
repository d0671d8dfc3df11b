-- So many entries are written, and one more.
use Rattle.std.proofs.Common.{◌≡◌, suc, length}
use Rattle.std.proofs.lemmas.List.Edits.{sets}
use Rattle.sample_seed.specs.Numbers.{next_of}
use Rattle.sample_library.proofs.WholeValue.{value_up_to, After}
use Rattle.sample_library.proofs.entries.Given as goal

abbrev pub invariant-loop : goal.invariant-loop
invariant-loop l = (length l.buf ≡ length l.fn.buf) × After l.t (next_of l.fn.seed.x) (suc l.counter) l.len l.seed.x
    × (l.buf ≡ sets l.fn.buf 0 (value_up_to l.t (next_of l.fn.seed.x) (suc l.counter)))
