use mathlib.Core.Path.{sym, ◌∙◌}
use Rattle.value_cursor.specs.Bytes.{in_class}
use Rattle.value_cursor.proofs.RunLaws.{run_step, run-stop, run_end}
use Rattle.value_cursor.proofs.cursor.Cursor.run.Goals as goal

pub loop-c-preserved : goal.loop-c-preserved
loop-c-preserved c = c.loop-c.invariant ∙ run_step (in_class c.args.class) c.args.s.now c.loop-c.c.at c.loop-c-test.true (sym c.has.ensures ∙ c.if-has.true)

pub returns-else-has : goal.returns-else-has
returns-else-has c = sym (c.run_fours-c.ensures ∙ c.loop-c.invariant ∙ run-stop (in_class c.args.class) c.args.s.now c.loop-c.c.at c.loop-c-test.true (sym c.has.ensures ∙ c.if-has.false))

pub returns-after-loop-c : goal.returns-after-loop-c
returns-after-loop-c c = sym (c.run_fours-c.ensures ∙ c.loop-c.invariant ∙ run_end (in_class c.args.class) c.args.s.now c.loop-c.c.at c.loop-c-test.false)
