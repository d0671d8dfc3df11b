use Prim.Native.Nat.{ℕ}
use mathlib.Core.Path.{refl, ◌∙◌}
use native.Mathlib.Omega.{arith}
use Rattle.std.proofs.Common.{rules}
use Rattle.std.proofs.lemmas.Iterator.{YieldsList-from_range}
use Rattle.std.proofs.lemmas.Iterator.Search.{any_from_yields_List}
use Rattle.table_places.specs.Slots.{same_places_at}
use Rattle.table_sections.proofs.Ranges.{any-range}
use Rattle.table_places.proofs.places.places_again.Goals as goal

pub returns : goal.returns
returns c = let p = λ (a : ℕ). same_places_at c.args.t.now c.args.slots.now c.args.at.now c.args.len.now c.args.n a c.args.b in
    any_from_yields_List p _ _ _ c.any.ensures.ran
    (YieldsList-from_range 0 c.args.b c.args.b refl (omega arith)) (λ x b q k. search rules) ∙ any-range p p (λ i. i) c.args.b (λ i h. refl)
