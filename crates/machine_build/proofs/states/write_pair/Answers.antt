use native.Mathlib.Omega.{arith}
use Prim.Native.Nat.{◌+◌}
use mathlib.Core.Path.{refl}
use mathlib.Core.List.{[], ◌∷◌}
use lib.ListN.{set, length-set}
use Rattle.base_lists.proofs.Over.{over-one, over-tabulate}
use Rattle.base_lists.specs.Lists.{tabulate}
use Rattle.node_step.specs.Step.{digit}
use Rattle.machine_build.proofs.TurnLaws.{pair-done}
use Rattle.machine_build.proofs.states.write_pair.Goals as goal

pub loop-c-init : goal.loop-c-init
unfolding tabulate
loop-c-init c = (simp length-set c.requires.1, over-one c.args.pair.now c.args.st.signal (omega (arith, c.requires.1)))

pub loop-c-preserved : goal.loop-c-preserved
loop-c-preserved c = (
  c.loop-c.invariant.0,
  over-tabulate (c.args.st.signal ∷ []) (set c.args.pair.now 0 c.args.st.signal) c.loop-c.pair (1 + c.loop-c.c) c.byte_at.result
      (omega (arith, c.loop-c.invariant.0)) (digit c.args.st.statuses) c.loop-c.c c.loop-c.invariant.1 refl c.byte_at.ensures,
)

pub returns : goal.returns
returns c = pair-done c.args.categories c.args.st c.loop-c.c _ (omega arith) c.loop-c-test.false c.loop-c.invariant.0 c.loop-c.invariant.1
