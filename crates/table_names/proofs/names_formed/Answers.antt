use mathlib.Core.Path.{refl, ◌∙◌}
use native.Mathlib.Omega.{arith}
use Rattle.std.proofs.Common.{rules}
use Rattle.std.proofs.lemmas.Iterator.{YieldsList-from_range}
use Rattle.std.proofs.lemmas.Iterator.Search.{all_from_yields_List}
use Rattle.table_sections.proofs.Ranges.{all-range}
use Prim.Native.Nat.{ℕ}
use Rattle.urn_names.specs.Urn.{stored_name}
use Rattle.node_search.specs.Arrays.{text_in}
use Rattle.table_names.proofs.names_formed.Goals as goal

pub returns : goal.returns
returns c = let name = text_in 8 c.args.t.now c.args.at.now c.args.len.now in
    all_from_yields_List (λ (i : ℕ). stored_name (name i)) _ _ _ c.all.ensures.ran
    (YieldsList-from_range 0 c.args.n c.args.n refl (omega arith)) (λ x b q k. search rules)
    ∙ all-range (λ i. stored_name (name i)) stored_name name c.args.n (λ i h. refl)
