use native.Mathlib.Omega.{arith}
use mathlib.Core.Path.{refl, sym}
use mathlib.Core.Bool.{false≢true}
use Rattle.base_lists.proofs.Numbers.{one_byte, two_bytes}
use Rattle.std.specs.Prelude.{None, Some}
use Rattle.table_nodes.proofs.NodeArrays.{looked, none_of, found_add, full, put-by}
use Rattle.table_nodes.proofs.Nodes.add.Goals as goal

pub returns-in-Some-clause-adds_node : goal.returns-in-Some-clause-adds_node
returns-in-Some-clause-adds_node c = λ ns p x N g o h.
    let e = looked _ _ c.args.self.now.parent _ _ _ ns N _ (Some c.in-Some.node) c.part-path.ensures c.in-Some.ensures.number h in
    (found_add _ _ _ _ _ _ ns N _ _ _ e.0 e.1, λ z. absurd (false≢true z))

pub returns-then-n-lt-MOST_NODES-clause-adds_node : goal.returns-then-n-lt-MOST_NODES-clause-adds_node
returns-then-n-lt-MOST_NODES-clause-adds_node c = λ ns p x N g o h.
    let e = looked _ _ c.args.self.now.parent _ _ _ ns N _ None c.part-path.ensures c.in_default.ensures.number h in (
      put-by _ _ _ _ _ _ ns N _ c.args.from c.args.k (sym e) refl c.if-n-lt-MOST_NODES.true
          (one_byte c.small.ensures (omega arith)) (two_bytes c.short.ensures (omega arith))
          (one_byte c.small-then-n-lt-MOST_NODES.ensures (omega arith)) p x g o,
      λ _. none_of _ _ _ _ _ _ ns N _ _ _ (sym e) refl,
    )

pub returns-clause-adds_node : goal.returns-clause-adds_node
returns-clause-adds_node c = λ ns p x N g o h.
    let e = looked _ _ c.args.self.now.parent _ _ _ ns N _ None c.part-path.ensures c.in_default.ensures.number h in
    (full _ _ _ _ _ _ ns N _ _ _ (sym e) refl c.if-n-lt-MOST_NODES.false, λ z. absurd (false≢true z))
