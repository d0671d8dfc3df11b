use Prim.Native.Nat.{ℕ, ◌+◌, ◌*◌}
use mathlib.Core.Path.{refl, ◌∙◌}
use native.Mathlib.Omega.{arith}
use lib.ListN.{get_or}
use Rattle.std.proofs.Common.{rules}
use Rattle.std.proofs.lemmas.Iterator.{YieldsList-from_range}
use Rattle.std.proofs.lemmas.Iterator.Search.{all_from_yields_List}
use Rattle.table_places.specs.Slots.{same_slots}
use Rattle.table_sections.proofs.Ranges.{all-range}
use Rattle.table_places.proofs.places.same_places.Goals as goal

pub returns : goal.returns
returns c = let p = λ (k : ℕ). same_slots c.args.t.now c.args.at.now c.args.len.now (get_or c.args.slots.now (8 * c.args.a + k) 0) (get_or c.args.slots.now (8 * c.args.b + k) 0) in
    all_from_yields_List p _ _ _ c.all.ensures.ran
    (YieldsList-from_range 0 c.args.n c.args.n refl (omega arith)) (λ x b q k. search rules) ∙ all-range p p (λ i. i) c.args.n (λ i h. refl)
