use Prim.Native.Nat.{ℕ}
use mathlib.Core.Path.{refl, ◌∙◌}
use native.Mathlib.Omega.{arith}
use lib.ListN.{get_or}
use lib.Dec.{eqb}
use Rattle.std.proofs.Common.{rules}
use Rattle.std.proofs.lemmas.Iterator.{YieldsList-from_range}
use Rattle.std.proofs.lemmas.Iterator.Search.{any_from_yields_List}
use Rattle.table_sections.proofs.Ranges.{any-range}
use Rattle.table_places.proofs.places.row_again.Goals as goal

pub returns : goal.returns
returns c = let row = λ (s : ℕ). get_or c.args.rows.now s 0 in
    any_from_yields_List (λ (j : ℕ). eqb (row j) (row c.args.i)) _ _ _ c.any.ensures.ran
    (YieldsList-from_range 0 c.args.i c.args.i refl (omega arith)) (λ x b q k. search rules)
    ∙ any-range (λ (j : ℕ). eqb (row j) (row c.args.i)) (λ x. eqb x (row c.args.i)) row c.args.i (λ j h. refl)
