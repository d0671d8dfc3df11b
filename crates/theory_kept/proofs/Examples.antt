-- The examples, computed from the definitions.
use mathlib.Core.Path.{refl}
use Rattle.theory_resolution.specs.Nodes.{nodes}
use Rattle.theory_resolution.specs.Direct.{step}
use Rattle.theory_resolution.specs.Discovery.{expand, discover}
use Rattle.theory_kept.specs.Way.{first_below, way_back}
use Rattle.theory_kept.specs.Examples.{Examples}

pub examples : Examples
unfolding nodes step expand discover first_below way_back
examples =
    record {
      external = refl;
      high = refl;
      internal = refl;
      after-low = refl;
      rings-low = refl;
      low = refl;
      after-internal = refl;
      rings-internal = refl;
      recall = refl;
      alone = refl;
      callback = refl;
      never = refl;
      absent = refl;
      after-external = refl;
    }
