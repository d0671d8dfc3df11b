use mathlib.Core.Path.{ap, ◌∙◌}
use Prim.Native.Nat.{◌/◌, ◌%◌, ◌^◌}
use lib.Dec.{eqb}
use lib.ListN.{get_or}
use Rattle.value_cursor.specs.Bytes.{Classes}
use borrow.Author.Rules.{rules}
use Rattle.value_cursor.proofs.classes.has.Goals as goal

pub returns : goal.returns
unfolding Classes
returns c =
    let a = c.args in
    ap (λ i. eqb (get_or a.classes.now i 0 / 2 ^ a.class % 2) 1) c.from.ensures ∙ c.requires.1 a.class a.b c.requires.0 (search rules)
