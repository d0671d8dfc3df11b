use Prim.Native.Nat.{ℕ, ◌≤◌}
use mathlib.Core.Path.{◌≡◌}
use lib.ListN.{length, get_or}
use Rattle.base_numbers.specs.Numbers.{most_nodes}
use Rattle.node_search.specs.Arrays.{SharedIn}
use Rattle.node_search.proofs.marks.share_paths.Given as goal

abbrev pub invariant-loop-i : goal.invariant-loop-i
invariant-loop-i l = (length l.shared ≡ most_nodes) × SharedIn l.t l.category l.at l.len l.shared l.i × ((k : ℕ) → l.i ≤ k → get_or l.shared k 0 ≡ 0)
