use mathlib.Core.Path.{ap, ◌∙◌}
use native.Mathlib.Omega.{arith}
use Rattle.std.specs.Prelude.{Some}
use Prim.Native.Nat.{◌+◌}
use Rattle.value_cursor.specs.Bytes.{is_uri}
use Rattle.value_cursor.proofs.Lands.{run-from}
use Rattle.value_cursor.proofs.PartLaws.{entry-open, entry-empty, entry_closed, entry-some}
use Rattle.value_cursor.proofs.cursor.Cursor.entry_with.Goals as goal

pub returns-then-peek-ne60 : goal.returns-then-peek-ne60
returns-then-peek-ne60 c = entry-open _ _ _ c.white-w.ensures _ c.peek.ensures c.if-peek-ne60.true

pub returns-then-start-u : goal.returns-then-start-u
returns-then-start-u c = entry-empty _ _ _ c.white-w.ensures _ c.peek.ensures c.if-peek-ne60.false _ c.run-u.ensures c.if-start-u.true

pub returns-then-peek-ne62 : goal.returns-then-peek-ne62
returns-then-peek-ne62 c = entry_closed _ _ _ c.white-w.ensures _ c.peek.ensures c.if-peek-ne60.false _ c.run-u.ensures c.if-start-u.false _ c.peek-2.ensures c.if-peek-ne62.true

pub overflow_sub-span : goal.overflow_sub-span
overflow_sub-span c = omega (arith, c.run-u.ensures, run-from is_uri c.args.s.now (c.white-w.result.at + 1))

pub returns-in_err-ending : goal.returns-in_err-ending
returns-in_err-ending c = c.from_residual.ensures ∙ entry-some _ _ _ c.white-w.ensures _ c.peek.ensures c.if-peek-ne60.false _ c.run-u.ensures c.if-start-u.false _ c.peek-2.ensures c.if-peek-ne62.false _ _ c.ending.ensures c.in_err-ending.was

pub returns-in-ValueEnd : goal.returns-in-ValueEnd
returns-in-ValueEnd c = entry-some _ _ _ c.white-w.ensures _ c.peek.ensures c.if-peek-ne60.false _ c.run-u.ensures c.if-start-u.false _ c.peek-2.ensures c.if-peek-ne62.false _ _ c.ending.ensures (c.in_ok-ending.was ∙ ap Some c.in-ValueEnd.is)

pub returns-in-NextEntry : goal.returns-in-NextEntry
returns-in-NextEntry c = entry-some _ _ _ c.white-w.ensures _ c.peek.ensures c.if-peek-ne60.false _ c.run-u.ensures c.if-start-u.false _ c.peek-2.ensures c.if-peek-ne62.false _ _ c.ending.ensures (c.in_ok-ending.was ∙ ap Some c.in-NextEntry.is)
