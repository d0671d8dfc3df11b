use Prim.Native.Nat.{◌≤◌, ◌+◌}
use mathlib.Core.Path.{◌≡◌}
use lib.ListN.{length}
use Rattle.urn_names.specs.Urn.{count_by}
use Rattle.urn_names.specs.Labels.{name_by}
use Rattle.urn_names.proofs.Turns.{count_from}
use Rattle.urn_names.proofs.names.names.Given as goal

abbrev pub invariant-loop-k : goal.invariant-loop-k
invariant-loop-k g l =
    let ok = name_by g.B.LabelByte.stands in
    (l.count + length l.rest ≤ length l.s) × (count_by ok l.s ≡ count_from ok l.count l.rest)

abbrev pub decreases-loop-k : goal.decreases-loop-k
decreases-loop-k g l = length l.rest
