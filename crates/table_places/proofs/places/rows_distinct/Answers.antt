use Prim.Native.Nat.{ℕ}
use mathlib.Core.Path.{refl, ◌∙◌}
use mathlib.Core.Bool.{not}
use native.Mathlib.Omega.{arith}
use lib.ListN.{get_or}
use lib.Dec.{eqb}
use Rattle.std.proofs.Common.{rules}
use Rattle.std.proofs.lemmas.Iterator.{YieldsList-from_range}
use Rattle.std.proofs.lemmas.Iterator.Search.{all_from_yields_List}
use Rattle.base_lists.specs.Tests.{any}
use Rattle.base_lists.specs.Lists.{tabulate}
use Rattle.table_sections.proofs.Ranges.{none-again}
use Rattle.table_places.proofs.places.rows_distinct.Goals as goal

pub returns : goal.returns
returns c = let row = λ (s : ℕ). get_or c.args.rows.now s 0 in
    all_from_yields_List (λ (i : ℕ). not (any (λ x. eqb x (row i)) (tabulate row i))) _ _ _ c.all.ensures.ran
    (YieldsList-from_range 0 c.args.n c.args.n refl (omega arith)) (λ x b q k. search rules) ∙ none-again eqb row c.args.n
