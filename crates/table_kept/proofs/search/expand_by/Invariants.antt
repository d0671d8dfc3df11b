use Rattle.std.proofs.Common.{◌≡◌}
use lib.Dec.{eqb}
use Rattle.theory_resolution.specs.Discovery.{expand}
use Rattle.table_kept.specs.Marks.{next_in}
use Rattle.table_kept.specs.Held.{signals_in}
use Rattle.table_kept.proofs.search.expand_by.Given as goal

abbrev pub invariant-loop-k : goal.invariant-loop-k
invariant-loop-k l = signals_in l.found ≡ expand eqb (next_in l.all) l.s l.k (signals_in l.initial.found)
