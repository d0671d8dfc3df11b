use mathlib.Core.Path.{sym, ◌∙◌}
use native.Mathlib.Omega.{arith}
use Rattle.value_cursor.proofs.WhiteLaws.{white-above, white-space, white-tab, white-other, white-broken, white-fold, white-past-end}
use Rattle.value_cursor.proofs.cursor.Cursor.blanks.Goals as goal

pub loop-c-preserved-then-s-c-eq32 : goal.loop-c-preserved-then-s-c-eq32
loop-c-preserved-then-s-c-eq32 c = c.loop-c.invariant ∙ white-space c.args.s.now c.loop-c.c.at c.if-s-c-eq32.true

pub returns-then-s-c-gt32 : goal.returns-then-s-c-gt32
returns-then-s-c-gt32 c = sym (c.loop-c.invariant ∙ white-above c.args.s.now c.loop-c.c.at c.if-s-c-gt32.true)

pub loop-c-preserved-then-s-c-eq9 : goal.loop-c-preserved-then-s-c-eq9
loop-c-preserved-then-s-c-eq9 c = c.loop-c.invariant ∙ white-tab c.args.s.now c.loop-c.c.at c.if-s-c-eq9.true

pub returns-then-s-c-ne13 : goal.returns-then-s-c-ne13
returns-then-s-c-ne13 c = sym (c.loop-c.invariant ∙ white-other c.args.s.now c.loop-c.c.at c.if-s-c-eq32.false c.if-s-c-eq9.false c.if-s-c-ne13.true)

pub returns-then-n-eq0 : goal.returns-then-n-eq0
returns-then-n-eq0 c = sym (c.loop-c.invariant ∙ white-broken c.args.s.now c.loop-c.c.at _ c.if-s-c-ne13.false c.fold-n.ensures c.if-n-eq0.true)

pub loop-c-preserved : goal.loop-c-preserved
loop-c-preserved c = c.loop-c.invariant ∙ (white-fold c.args.s.now c.loop-c.c.at _ c.if-s-c-ne13.false c.fold-n.ensures c.if-n-eq0.false).0

pub overflow_add-c-in-loop-c : goal.overflow_add-c-in-loop-c
overflow_add-c-in-loop-c c = omega (arith, white-fold c.args.s.now c.loop-c.c.at _ c.if-s-c-ne13.false c.fold-n.ensures c.if-n-eq0.false)

pub loop-c-smaller : goal.loop-c-smaller
loop-c-smaller c = omega (arith, white-fold c.args.s.now c.loop-c.c.at _ c.if-s-c-ne13.false c.fold-n.ensures c.if-n-eq0.false)

pub returns : goal.returns
returns c = sym (c.loop-c.invariant ∙ white-past-end c.args.s.now c.loop-c.c.at c.loop-c-test.false)
