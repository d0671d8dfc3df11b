use mathlib.Core.Path.{◌≡◌}
use lib.ListN.{drop, get_or}
use Rattle.base_lists.specs.Lists.{tabulate}
use Rattle.tree_nodes.specs.Tests.{scan_by}
use Rattle.tree_nodes.proofs.order.scan.Given as goal

abbrev pub invariant-loop-i : goal.invariant-loop-i
invariant-loop-i l = let all = tabulate (λ j. get_or l.s.number j 0) l.s.counts.numbers in
    scan_by l.s.parent 0 all ≡ scan_by l.s.parent l.used (drop l.i all)
