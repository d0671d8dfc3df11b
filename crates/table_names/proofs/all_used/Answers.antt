use mathlib.Core.Path.{refl, ◌∙◌}
use native.Mathlib.Omega.{arith}
use Rattle.std.proofs.Common.{rules}
use Rattle.std.proofs.lemmas.Iterator.{YieldsList-from_range}
use Rattle.std.proofs.lemmas.Iterator.Search.{all_from_yields_List}
use Rattle.table_sections.proofs.Ranges.{all-range}
use Prim.Native.Nat.{ℕ}
use lib.ListN.{get_or}
use lib.Dec.{eqb}
use borrow.Author.Tests.{lt-leb}
use Rattle.base_lists.specs.Tests.{any}
use Rattle.base_lists.specs.Lists.{tabulate}
use Rattle.table_names.proofs.RoomLaws.{no_room, used-as}
use Rattle.table_names.proofs.all_used.Goals as goal

pub returns-then-m-le-MOST_TABLE_URNS : goal.returns-then-m-le-MOST_TABLE_URNS
returns-then-m-le-MOST_TABLE_URNS c = let p = λ (k : ℕ). any (λ x. eqb x k) (tabulate (λ j. get_or c.args.category.now j 0) c.args.m) in
    used-as c.args.category.now c.args.m c.args.n (omega arith)
    (all_from_yields_List p _ _ _ c.all.ensures.ran (YieldsList-from_range 0 c.args.n c.args.n refl (omega arith)) (λ x b q k. search rules)
    ∙ all-range p p (λ i. i) c.args.n (λ i h. refl))

pub returns-else-m-le-MOST_TABLE_URNS : goal.returns-else-m-le-MOST_TABLE_URNS
returns-else-m-le-MOST_TABLE_URNS c = lt-leb c.args.m 256 c.if-m-le-MOST_TABLE_URNS.false ∙ no_room c.args.category.now c.args.m c.args.n c.if-m-le-MOST_TABLE_URNS.false
