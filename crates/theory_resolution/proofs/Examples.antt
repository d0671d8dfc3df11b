-- The examples, computed from the definitions.
use mathlib.Core.Path.{refl}
use Rattle.base_lists.specs.Lists.{tabulate}
use Rattle.theory_resolution.specs.Direct.{step}
use Rattle.theory_resolution.specs.Nodes.{nodes, leaf, deepest}
use Rattle.theory_resolution.specs.Discovery.{expand, discover}
use Rattle.theory_resolution.specs.Examples.{BoundReached, NotAvailable}

pub bound-reached : BoundReached
unfolding step nodes leaf deepest expand discover tabulate
bound-reached = record { most = refl; direct-changes = refl; walk-changes = refl }

pub not-available : NotAvailable
unfolding step nodes leaf deepest
not-available = record { dark = refl; held = refl; above = refl; silent = refl }
