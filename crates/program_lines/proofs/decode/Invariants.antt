use Rattle.base_lists.specs.Lists.{tabulate, over}
use Rattle.std.proofs.Common.{◌≡◌, length}
use Rattle.program_lines.specs.Numbers.{hex_pair}
use Rattle.program_lines.proofs.decode.Given as goal

abbrev pub invariant-loop-k : goal.invariant-loop-k
invariant-loop-k l = (length l.out ≡ length l.initial.out) × (l.out ≡ over (tabulate (hex_pair l.text) l.k) l.initial.out)
