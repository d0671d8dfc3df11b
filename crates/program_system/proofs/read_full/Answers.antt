use Rattle.std.proofs.Common.{rules}
use Rattle.program_system.proofs.Filled.{Consumes-filled}
use Rattle.program_system.proofs.read_full.Goals as goal

pub loop-done-preserved : goal.loop-done-preserved
loop-done-preserved g c = record {
  same_length = search rules;
  within = search rules;
  filled = Consumes-filled _ _ _ c.loop-done.done _ c.in-Ok.n c.loop-done.buf c.read.new.buf c.loop-done.invariant.within
      c.in-Ok.ensures.bound.0 c.loop-done.invariant.filled c.in-Ok.ensures.bytes.0;
}
