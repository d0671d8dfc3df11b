use Rattle.std.proofs.Common.{◌≡◌}
use lib.Dec.{eqb}
use Rattle.theory_resolution.specs.Discovery.{discover}
use Rattle.table_kept.specs.Marks.{next_in}
use Rattle.table_kept.specs.Held.{signals_in}
use Rattle.table_kept.proofs.search.discover.Given as goal

abbrev pub invariant-loop-i : goal.invariant-loop-i
invariant-loop-i l = signals_in l.h ≡ discover eqb (next_in l.all) l.nodes 0 l.i
