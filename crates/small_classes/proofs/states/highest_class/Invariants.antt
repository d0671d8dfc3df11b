use Rattle.std.proofs.Common.{◌≡◌, ◌<◌}
use Rattle.base_lists.specs.Search.{highest}
use Rattle.theory_minimal.specs.Proposal.{class_of}
use Rattle.small_classes.proofs.states.highest_class.Given as goal

abbrev pub invariant-loop-x : goal.invariant-loop-x
invariant-loop-x l = (l.most ≡ highest (class_of l.p) l.x-index) × (l.most < 256)
