use Prim.Native.Nat.{◌+◌}
use mathlib.Core.List.{◌++◌}
use Rattle.machine_symbols.specs.Listed.{triple}
use Rattle.machine_symbols.proofs.SymbolLaws.{node-other, node-leaf, node-both}
use Rattle.machine_symbols.proofs.Symbols.push_node.Goals as goal

pub returns-then-d-i-2-clause-by_index : goal.returns-then-d-i-2-clause-by_index
returns-then-d-i-2-clause-by_index c = λ l v. node-both _ _ _ _ c.if-d-i.true c.if-d-i-2.true _ _ l
    (c.push-then-d-i-2.ensures.by_index (l ++ triple c.args.category (c.args.i + 1) 0) (c.push.ensures.by_index l v))

pub returns-else-d-i-2-clause-by_index : goal.returns-else-d-i-2-clause-by_index
returns-else-d-i-2-clause-by_index c = λ l v. node-leaf _ _ _ _ c.if-d-i.true c.if-d-i-2.false _ _ l (c.push.ensures.by_index l v)

pub returns-else-d-i-clause-by_index : goal.returns-else-d-i-clause-by_index
returns-else-d-i-clause-by_index c = λ l v. node-other _ _ _ _ c.if-d-i.false _ _ l v
