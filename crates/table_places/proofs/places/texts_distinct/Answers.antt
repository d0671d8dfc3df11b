use Prim.Native.Nat.{ℕ}
use mathlib.Core.Path.{refl, ◌∙◌}
use mathlib.Core.Bool.{not}
use native.Mathlib.Omega.{arith}
use Rattle.std.proofs.Common.{rules}
use Rattle.std.proofs.lemmas.Iterator.{YieldsList-from_range}
use Rattle.std.proofs.lemmas.Iterator.Search.{all_from_yields_List}
use Rattle.base_lists.specs.Tests.{any}
use Rattle.base_lists.specs.Lists.{tabulate}
use Rattle.table_places.specs.Slots.{same_places_at}
use Rattle.table_sections.proofs.Ranges.{none-again}
use Rattle.table_places.proofs.places.texts_distinct.Goals as goal

pub returns : goal.returns
returns c = let same = same_places_at c.args.t.now c.args.slots.now c.args.at.now c.args.len.now c.args.n in
    all_from_yields_List (λ (i : ℕ). not (any (λ x. same x i) (tabulate (λ a. a) i))) _ _ _ c.all.ensures.ran
    (YieldsList-from_range 0 c.args.count c.args.count refl (omega arith)) (λ x b q k. search rules) ∙ none-again same (λ a. a) c.args.count
