use Rattle.std.proofs.Common.{◌≡◌, length}
use lib.ListN.{take}
use Rattle.tree_bytes.specs.Laid.{Wrote}
use Rattle.tree_bytes.proofs.put.put_all.Given as goal

abbrev pub invariant-loop-b : goal.invariant-loop-b
invariant-loop-b l = (length l.buf ≡ length l.initial.buf) × Wrote l.initial.buf l.buf l.at (take l.b-index l.s) l.end
