use mathlib.Core.Path.{◌∙◌}
use borrow.Author.Tests.{lt-leb}
use Rattle.tree_forms.proofs.Theorems.{old-fits, old-over}
use Rattle.tree_to_table.proofs.room_for.Goals as goal

pub returns-then-n-le-MOST_TABLE_BYTES : goal.returns-then-n-le-MOST_TABLE_BYTES
returns-then-n-le-MOST_TABLE_BYTES c = old-fits c.args.n c.args.room c.if-n-le-MOST_TABLE_BYTES.true

pub returns-else-n-le-MOST_TABLE_BYTES : goal.returns-else-n-le-MOST_TABLE_BYTES
returns-else-n-le-MOST_TABLE_BYTES c = lt-leb _ _ c.if-n-le-MOST_TABLE_BYTES.false ∙ old-over c.args.n c.args.room c.if-n-le-MOST_TABLE_BYTES.false
