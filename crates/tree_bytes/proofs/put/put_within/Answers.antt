use mathlib.Core.Path.{refl, ◌∙◌}
use native.Mathlib.Omega.{arith}
use lib.ListN.{length-set}
use Rattle.tree_bytes.proofs.Laying.{wrote_none, wrote-more, wrote-all, byte-in}
use Rattle.tree_bytes.proofs.put.put_within.Goals as goal

pub loop-b-init : goal.loop-b-init
loop-b-init c = (refl, omega arith, wrote_none _ _)

pub loop-b-preserved : goal.loop-b-preserved
loop-b-preserved c = let inv = c.loop-b.invariant in (
  length-set c.loop-b.buf c.loop-b.end _ ∙ inv.0,
  omega (arith, inv.1),
  wrote-more c.args.s.now c.loop-b.b-index c.loop-b-test.true inv.2 (byte-in c.loop-b.buf c.loop-b.end _ (omega (arith, c.requires, c.loop-b-test.true, inv.0, inv.1))),
)

pub returns : goal.returns
returns c = wrote-all c.args.s.now c.loop-b.b-index c.loop-b-test.false c.loop-b.invariant.2
