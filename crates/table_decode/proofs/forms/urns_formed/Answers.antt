use Prim.Native.Nat.{ℕ}
use mathlib.Core.Path.{refl, ap, ◌∙◌}
use native.Mathlib.Omega.{arith}
use Rattle.std.proofs.Common.{rules}
use Rattle.std.proofs.lemmas.Iterator.{YieldsList-from_range}
use Rattle.std.proofs.lemmas.Iterator.Search.{all_from_yields_List}
use Rattle.base_lists.specs.Cuts.{stretch}
use Rattle.urn_names.specs.Urn.{urn_ok}
use Rattle.node_search.specs.Arrays.{text_in}
use Rattle.node_search.proofs.TextLaws.{text_in_lem}
use Rattle.table_sections.proofs.Ranges.{all-range}
use Rattle.table_decode.proofs.forms.urns_formed.Goals as goal

pub returns : goal.returns
returns c = let text = text_in 256 c.args.t.now c.args.at.now c.args.len.now in
    all_from_yields_List (λ (i : ℕ). urn_ok (text i)) _ _ _ c.all.ensures.ran
    (YieldsList-from_range 0 c.args.m c.args.m refl (omega arith)) (λ x b q k. search rules)
    ∙ all-range (λ i. urn_ok (text i)) urn_ok (stretch c.args.t.now c.args.at.now c.args.len.now) c.args.m
    (λ i h. ap urn_ok (text_in_lem 256 c.args.t.now c.args.at.now c.args.len.now i refl (omega arith)))
