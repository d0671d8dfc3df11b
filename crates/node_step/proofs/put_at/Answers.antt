use Rattle.node_step.proofs.StepLaws.{put-fits, put_is}
use native.Mathlib.Omega.{arith}
use Rattle.node_step.proofs.put_at.Goals as goal

pub overflow_add-result : goal.overflow_add-result
overflow_add-result c = rw (c.from.ensures, c.from-2.ensures) (omega (
  arith,
  put-fits c.args.row c.args.p c.args.c c.requires.0 (omega arith) (omega arith),
  put_is c.args.row c.args.q c.args.p c.args.c c.requires.0 c.requires.1 (omega arith) (omega arith),
))

pub returns : goal.returns
returns c = rw (c.from.ensures, c.from-2.ensures) (put_is c.args.row c.args.q c.args.p c.args.c c.requires.0 c.requires.1 (omega arith) (omega arith))
