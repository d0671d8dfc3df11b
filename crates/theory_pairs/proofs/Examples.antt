-- The example, computed from the definitions.
use mathlib.Core.Path.{refl}
use Rattle.theory_resolution.specs.Direct.{step}
use Rattle.theory_resolution.specs.Nodes.{nodes}
use Rattle.theory_pairs.specs.Examples.{PairExample}

pub pair-example : PairExample
unfolding step nodes
pair-example = record { all-pairs = refl; ring = refl; lamp = refl; number = refl; pair = refl }
