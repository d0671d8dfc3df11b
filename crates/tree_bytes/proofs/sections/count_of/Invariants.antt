use Prim.Native.Nat.{◌≤◌}
use mathlib.Core.Path.{◌≡◌}
use lib.ListN.{length}
use Rattle.base_lists.specs.Lists.{tabulate}
use Rattle.tree_sections.specs.Held.{number_at}
use Rattle.tree_bytes.specs.Laid.{of_signal}
use Rattle.tree_bytes.proofs.sections.count_of.Given as goal

abbrev pub invariant-loop-i : goal.invariant-loop-i
invariant-loop-i l = (l.n ≤ l.i) × (l.n ≡ length (of_signal l.s (tabulate (number_at l.signal l.number) l.i)))
