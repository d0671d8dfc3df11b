use mathlib.Core.Path.{sym, ◌∙◌}
use mathlib.Core.Bool.{true, false}
use native.Mathlib.Omega.{arith}
use Rattle.value_cursor.proofs.RunLaws.{byte-in}
use Rattle.value_cursor.proofs.WhiteLaws.{fold-short, fold-lf, fold-from}
use Rattle.value_cursor.proofs.cursor.Cursor.fold.Goals as goal

pub overflow_sub-s : goal.overflow_sub-s
overflow_sub-s c = omega (arith, byte-in c.args.s.now c.args.self.at c.requires.1 (omega arith))

pub returns-then-s-self-lt3 : goal.returns-then-s-self-lt3
returns-then-s-self-lt3 c = fold-short c.args.s.now c.args.self.at c.requires.1 c.if-s-self-lt3.true

pub returns-then-s-self-ne10 : goal.returns-then-s-self-ne10
returns-then-s-self-ne10 c = fold-lf c.args.s.now c.args.self.at c.requires.1 c.if-s-self-ne10.true

pub returns-then-has : goal.returns-then-has
returns-then-has c = fold-from c.args.s.now c.args.self.at c.requires.1 true c.if-s-self-ne10.false (sym c.if-has.true ∙ c.has.ensures)

pub returns-else-has : goal.returns-else-has
returns-else-has c = fold-from c.args.s.now c.args.self.at c.requires.1 false c.if-s-self-ne10.false (sym c.if-has.false ∙ c.has.ensures)
