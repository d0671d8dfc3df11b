use Rattle.value_cursor.proofs.ClassTable.{four-right}
use borrow.Author.Rules.{rules}
use Rattle.value_cursor.proofs.classes.have.Goals as goal

pub returns : goal.returns
returns c = let a = c.args in four-right a.classes.now c.requires.1
    a.class c.requires.0 (search rules) (search rules) (search rules) (search rules)
    c.of.ensures c.of-2.ensures c.of-3.ensures c.of-4.ensures
