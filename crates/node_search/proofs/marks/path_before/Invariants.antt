use mathlib.Core.Path.{◌≡◌}
use Rattle.node_search.specs.Arrays.{last_path}
use Rattle.node_search.proofs.marks.path_before.Given as goal

abbrev pub invariant-loop-k : goal.invariant-loop-k
invariant-loop-k l = last_path l.t l.category l.at l.len l.c l.i ≡ last_path l.t l.category l.at l.len l.c l.k
