use native.Mathlib.Omega.{arith}
use Prim.Native.Nat.{◌-◌}
use mathlib.Core.Path.{◌≡◌, ◌∙◌}
use Rattle.machine_check.proofs.ImageLaws.{pack-more, pack-end, pack-none, pack-fits}
use Rattle.machine_check.proofs.image.packed_at.Goals as goal

pub loop-c-init : goal.loop-c-init
loop-c-init c = let z : c.args.n - c.args.n ≡ 0 = omega arith in (rw z (omega arith), pack-none _ _ _)

pub overflow_mul-x : goal.overflow_mul-x
overflow_mul-x c = omega (arith, (pack-fits c.args.n c.loop-c.c c.loop-c.x 0 c.loop-c-test.true (omega arith) c.requires.0 c.loop-c.invariant.0 (omega arith)).1)

pub overflow_add-x : goal.overflow_add-x
overflow_add-x c = omega (arith, (pack-fits c.args.n c.loop-c.c c.loop-c.x c.from-b.result c.loop-c-test.true (omega arith) c.requires.0 c.loop-c.invariant.0 (omega arith)).1)

pub loop-c-preserved : goal.loop-c-preserved
loop-c-preserved c = (
  (pack-fits c.args.n c.loop-c.c c.loop-c.x c.from-b.result c.loop-c-test.true (omega arith) c.requires.0 c.loop-c.invariant.0 (omega arith)).0,
  pack-more _ _ _ c.loop-c.c _ _ c.loop-c-test.true (omega arith) c.loop-c.invariant.1 (c.from-b.ensures ∙ c.byte.ensures),
)

pub returns : goal.returns
returns c = pack-end _ _ _ c.loop-c.c _ c.loop-c-test.false c.loop-c.invariant.1
