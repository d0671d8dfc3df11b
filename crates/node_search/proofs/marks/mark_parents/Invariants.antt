use Prim.Native.Nat.{ℕ, ◌+◌, ◌<◌}
use mathlib.Core.Path.{◌≡◌}
use mathlib.Core.Bool.{false, not}
use lib.ListN.{length, get_or}
use Rattle.base_numbers.specs.Numbers.{most_nodes}
use Rattle.node_search.specs.Arrays.{childless}
use Rattle.node_search.proofs.marks.mark_parents.Given as goal

abbrev pub invariant-loop-i : goal.invariant-loop-i
invariant-loop-i l = (length l.inner ≡ most_nodes) × ((k : ℕ) → k < most_nodes → get_or l.inner k false ≡ not (childless l.parents (k + 1) l.i))
