use Prim.Native.Nat.{min}
use mathlib.Core.List.{◌++◌}
use native.Mathlib.Omega.{arith}
use Rattle.base_numbers.specs.Numbers.{most_nodes}
use Rattle.machine_symbols.specs.Listed.{nodes_triples}
use Rattle.machine_symbols.proofs.SymbolLaws.{nodes-start, nodes-more, nodes-end}
use Rattle.machine_symbols.proofs.Symbols.push_category.Goals as goal

pub loop-i-init : goal.loop-i-init
loop-i-init c = (c.requires, λ l v. nodes-start _ _ 0 _ _ _ l v)

pub loop-i-preserved : goal.loop-i-preserved
loop-i-preserved c = (
  c.push_node.ensures.upper_bound,
  λ l v. nodes-more _ _ 0 _ c.loop-i.i _ _ l
      (c.push_node.ensures.by_index (l ++ nodes_triples c.args.d.now.category c.args.d.now.inner c.args.category c.loop-i.i) (c.loop-i.invariant.1 l v)),
)

pub returns : goal.returns
returns c = record {
  upper_bound = c.push.ensures.upper_bound;
  by_index = λ l v. nodes-end _ _ (min c.args.d.now.nodes most_nodes) _ c.loop-i.i (omega arith) (omega arith) _ _ l
      (c.push.ensures.by_index (l ++ nodes_triples c.args.d.now.category c.args.d.now.inner c.args.category c.loop-i.i) (c.loop-i.invariant.1 l v));
}
