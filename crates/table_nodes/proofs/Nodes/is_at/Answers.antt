use mathlib.Core.Path.{sym, ap, ◌∙◌}
use mathlib.Core.Bool.{not}
use Rattle.base_text.proofs.Turns.{ends-other}
use Rattle.table_nodes.proofs.NodeArrays.{node-same, node-other}
use Rattle.node_search.proofs.TextLaws.{text_in_lem}
use Rattle.table_nodes.proofs.Nodes.is_at.Goals as goal

pub returns-then-not-ends_differ : goal.returns-then-not-ends_differ
returns-then-not-ends_differ c = node-same _ c.args.self.now.category c.args.self.now.at c.args.self.now.len c.args.i _ _ c.if-c-self.true c.same.ensures
    (text_in_lem _ _ _ _ _ c.text_at-p.ensures.result_value c.requires)

pub returns-else-not-ends_differ : goal.returns-else-not-ends_differ
returns-else-not-ends_differ c = ap not c.if-not-ends_differ.false
    ∙ node-same _ c.args.self.now.category c.args.self.now.at c.args.self.now.len c.args.i _ _ c.if-c-self.true
    (ends-other _ _ (sym c.ends_differ.ensures ∙ c.if-not-ends_differ.false)) (text_in_lem _ _ _ _ _ c.text_at-p.ensures.result_value c.requires)

pub returns : goal.returns
returns c = node-other _ c.args.self.now.category c.args.self.now.at c.args.self.now.len c.args.i _ _ c.if-c-self.false
