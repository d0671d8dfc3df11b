use mathlib.Core.Path.{refl, ◌∙◌}
use native.Mathlib.Omega.{arith}
use Rattle.std.proofs.Common.{rules}
use Rattle.std.proofs.lemmas.Iterator.{YieldsList-from_range}
use Rattle.std.proofs.lemmas.Iterator.Search.{all_from_yields_List}
use Rattle.table_sections.proofs.Ranges.{none-again}
use Prim.Native.Nat.{ℕ}
use mathlib.Core.Bool.{not}
use Rattle.base_lists.specs.Tests.{any}
use Rattle.base_lists.specs.Lists.{tabulate}
use Rattle.theory_resolution.specs.Names.{same_name}
use Rattle.node_search.specs.Arrays.{text_in}
use Rattle.table_names.proofs.names_distinct.Goals as goal

pub returns : goal.returns
returns c = let name = text_in 8 c.args.t.now c.args.at.now c.args.len.now in
    all_from_yields_List (λ (i : ℕ). not (any (λ x. same_name x (name i)) (tabulate name i))) _ _ _ c.all.ensures.ran
    (YieldsList-from_range 0 c.args.n c.args.n refl (omega arith)) (λ x b q k. search rules) ∙ none-again same_name name c.args.n
