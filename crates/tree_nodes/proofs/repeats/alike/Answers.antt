use native.Mathlib.Omega.{arith}
use mathlib.Core.Path.{sym, ◌∙◌}
use Rattle.std.proofs.Common.{eqb-true}
use Rattle.node_search.proofs.TextLaws.{text_in_lem}
use Rattle.tree_nodes.proofs.Tests.{by_name}
use Rattle.tree_nodes.proofs.repeats.alike.Goals as goal
use Rattle.tree_nodes.proofs.repeats.alike.Goals.{then-s-i, else-s-i}

pub returns-then-s-i-2 : goal.returns-then-s-i-2
returns-then-s-i-2 c = let s = c.args.s.now in
    elim c.if-s-i.branch [
      | then-s-i w ↦ by_name c.args.t.now s.category s.parent s.at s.len c.args.i c.args.j w.if-s-i.true (eqb-true _ _ (sym w.value-is ∙ c.if-s-i-2.true)) c.eq.ensures
          (text_in_lem _ _ _ _ _ c.text_at.ensures.result_value (omega arith))
          (text_in_lem _ _ _ _ _ c.text_at-then-s-i-2.ensures.result_value (omega arith))
      | else-s-i w ↦ absurd (w.if-s-i.false (eqb-true _ _ (sym w.value-is ∙ c.if-s-i-2.true)))
    ]
