use mathlib.Core.Path.{ap, subst, sym, ◌∙◌}
use Rattle.base_lists.specs.Lists.{index_by}
use Rattle.base_lists.specs.Tests.{any}
use Rattle.base_lists.proofs.Tabulated.{tabulate-length}
use Rattle.theory_resolution.specs.Names.{same_name}
use Rattle.node_search.specs.Arrays.{text_in}
use Rattle.table_names.specs.Categories.{names_in, IndexIn}
use Rattle.table_names.proofs.NameLaws.{listed-before}
use Rattle.table_names.proofs.listed_before.Goals as goal

pub returns : goal.returns
returns c = let name = text_in 8 c.args.t.now c.args.at.now c.args.len.now in
    let names = names_in c.args.t.now c.args.at.now c.args.len.now c.args.i in
    c.is_some.ensures ∙ listed-before c.text_at.result.now names c.name_index.result
    (subst (λ n. IndexIn n (index_by same_name c.text_at.result.now names) c.name_index.result) (sym (tabulate-length name c.args.i)) c.name_index.ensures)
    ∙ ap (λ x. any (λ y. same_name y x) names) c.text_at.ensures.result_value
