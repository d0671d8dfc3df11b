use mathlib.Core.Path.{refl, ◌∙◌}
use native.Mathlib.Omega.{arith}
use Rattle.tree_bytes.proofs.Laying.{wrote_none, wrote-more, wrote-all}
use Rattle.tree_bytes.proofs.put.put_all.Goals as goal

pub loop-b-init : goal.loop-b-init
loop-b-init c = (refl, wrote_none _ _)

pub loop-b-preserved : goal.loop-b-preserved
loop-b-preserved c = (omega (arith, c.loop-b.invariant.0), wrote-more c.args.s.now c.loop-b.b-index c.loop-b-test.true c.loop-b.invariant.1 c.put_byte-end.ensures)

pub returns : goal.returns
returns c = wrote-all c.args.s.now c.loop-b.b-index c.loop-b-test.false c.loop-b.invariant.1
