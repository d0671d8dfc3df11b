use Rattle.machine_build.specs.States.{slot_of, low_factor, high_factor, signal_factor}
use native.Mathlib.Omega.{arith}
use mathlib.Core.Path.{ap}
use Prim.Native.Nat.{◌+◌, ◌*◌, ◌/◌, ◌%◌}
use Rattle.machine_build.proofs.states.slot_of.Goals as goal

pub returns : goal.returns
unfolding slot_of
returns c = let st = c.args.st in (
  ap (λ z. (st.statuses % 4294967296 * low_factor + st.statuses / 4294967296 * high_factor + z * signal_factor) / 65536 % 4096)
      c.from.ensures,
  omega arith,
)
