use Rattle.std.proofs.Common.{◌≡◌, ◌+◌, length, drop}
use Rattle.std.proofs.lemmas.List.Edits.{sets}
use Rattle.sample_library.specs.Written.{in_row}
use Rattle.sample_library.proofs.entry.put.Given as goal

abbrev pub invariant-loop-s : goal.invariant-loop-s
invariant-loop-s l = (length l.buf ≡ length l.initial.buf)
    × (l.end + length (in_row (drop l.s-index l.texts)) ≡ l.at + length (in_row l.texts))
    × (sets l.initial.buf l.at (in_row l.texts) ≡ sets l.buf l.end (in_row (drop l.s-index l.texts)))
