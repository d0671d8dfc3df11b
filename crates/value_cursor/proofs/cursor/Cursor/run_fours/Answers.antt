use mathlib.Core.Path.{◌∙◌}
use native.Mathlib.Omega.{arith}
use Rattle.value_cursor.specs.Bytes.{in_class}
use Rattle.value_cursor.proofs.RunLaws.{run-four}
use Rattle.value_cursor.proofs.cursor.Cursor.run_fours.Goals as goal

pub loop-c-preserved : goal.loop-c-preserved
loop-c-preserved c = c.loop-c.invariant ∙ run-four (in_class c.args.class) c.args.s.now c.loop-c.c.at _ (omega arith) c.four.ensures c.if-four.true
