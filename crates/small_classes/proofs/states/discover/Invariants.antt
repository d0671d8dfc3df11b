use Rattle.std.proofs.Common.{◌≡◌, ◌≤◌, ◌-◌, take}
use Rattle.small_rounds.specs.Rows.{machine_in}
use Rattle.small_classes.specs.Found.{Kept}
use Rattle.small_classes.proofs.FoundLaws.{found_at}
use Rattle.small_classes.proofs.states.discover.Given as goal

abbrev pub invariant-loop-i : goal.invariant-loop-i
invariant-loop-i l = (l.i ≤ l.count) × Kept l.m.rows.states l.list l.seen l.count × (take l.count l.list ≡ found_at (machine_in l.m.rows) l.i)

abbrev pub decreases-loop-i : goal.decreases-loop-i
decreases-loop-i l = l.m.rows.states - l.i
