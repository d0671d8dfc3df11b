use mathlib.Core.Path.{refl, ◌∙◌}
use native.Mathlib.Omega.{arith}
use Rattle.std.proofs.Common.{rules}
use Rattle.std.proofs.lemmas.Iterator.{YieldsList-from_range}
use Rattle.std.proofs.lemmas.Iterator.Search.{any_from_yields_List}
use Rattle.table_sections.proofs.Ranges.{any-range}
use Prim.Native.Nat.{ℕ}
use lib.ListN.{get_or}
use lib.Dec.{eqb}
use Rattle.table_names.proofs.has_category.Goals as goal

pub returns : goal.returns
returns c = any_from_yields_List (λ (j : ℕ). eqb (get_or c.args.category.now j 0) c.args.c) _ _ _ c.any.ensures.ran
    (YieldsList-from_range 0 c.args.m c.args.m refl (omega arith)) (λ x b q k. search rules)
    ∙ any-range (λ j. eqb (get_or c.args.category.now j 0) c.args.c) (λ x. eqb x c.args.c) (λ j. get_or c.args.category.now j 0) c.args.m (λ i h. refl)
