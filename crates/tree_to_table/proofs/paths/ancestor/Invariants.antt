use mathlib.Core.Path.{◌≡◌}
use Rattle.tree_to_table.specs.Urns.{ancestor_of}
use Rattle.tree_to_table.proofs.paths.ancestor.Given as goal

abbrev pub invariant-loop : goal.invariant-loop
invariant-loop l = l.a ≡ ancestor_of l.parent l.k l.counter
