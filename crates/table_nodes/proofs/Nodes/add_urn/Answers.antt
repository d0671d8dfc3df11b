use mathlib.Core.Path.{sym, ap, ◌∙◌, refl}
use mathlib.Core.List.{foldl, []}
use Rattle.base_lists.specs.Lists.{tabulate}
use Rattle.theory_resolution.specs.Nodes.{number, add_urn}
use Rattle.base_text.specs.Text.{fields}
use Rattle.table_nodes.specs.Nodes.{node_urn}
use Rattle.table_nodes.proofs.NodeArrays.{none_of, whole-found}
use Rattle.table_nodes.proofs.Nodes.add_urn.Goals as goal

pub returns-in-Some-clause-adds_urn : goal.returns-in-Some-clause-adds_urn
returns-in-Some-clause-adds_urn c = let e = c.in-Some.ensures.number.0
    ∙ ap (λ s. number (tabulate (node_urn c.args.t.now c.args.self.now.category c.args.self.now.at c.args.self.now.len) c.args.self.now.count) c.args.c (fields 58 s)) c.part.ensures in
    λ us N. whole-found _ _ c.args.self.now.parent _ _ _ us N _ _ _ e c.in-Some.ensures.number.1

pub returns-clause-adds_urn : goal.returns-clause-adds_urn
returns-clause-adds_urn c = let e = sym c.in_default.ensures.number
    ∙ ap (λ s. number (tabulate (node_urn c.args.t.now c.args.self.now.category c.args.self.now.at c.args.self.now.len) c.args.self.now.count) c.args.c (fields 58 s)) c.part.ensures in
    λ us N. c.add_path.ensures.adds_path us N (none_of _ _ c.args.self.now.parent _ _ _ (foldl add_urn [] us) N _ _ _ e refl)
