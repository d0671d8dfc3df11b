use Prim.Native.Nat.{◌+◌}
use mathlib.Core.Path.{◌≡◌}
use mathlib.Core.List.{[], ◌∷◌, ◌++◌}
use lib.ListN.{length}
use Rattle.base_lists.specs.Lists.{tabulate, over}
use Rattle.node_step.specs.Step.{digit}
use Rattle.machine_build.proofs.states.write_pair.Given as goal

abbrev pub invariant-loop-c : goal.invariant-loop-c
invariant-loop-c l = (length l.initial.pair ≡ l.categories + 1)
    × (l.pair ≡ over (l.st.signal ∷ [] ++ tabulate (digit l.st.statuses) l.c) l.initial.pair)
