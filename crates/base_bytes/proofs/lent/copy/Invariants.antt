use Rattle.std.proofs.Common.{◌≡◌, ℕ, length}
use lib.ListN.{take}
use Rattle.base_lists.specs.Lists.{laid}
use Rattle.base_bytes.proofs.lent.copy.Given as goal

abbrev pub invariant-loop-i : goal.invariant-loop-i
invariant-loop-i l = (length l.part ≡ length l.initial.part) × (l.part ≡ laid (take l.i l.bytes) l.initial.part)
