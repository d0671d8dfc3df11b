use Rattle.base_lists.proofs.Numbers.{one_byte}
use native.Mathlib.Omega.{arith}
use mathlib.Core.Path.{refl, ◌∙◌}
use Rattle.tree_forms.specs.Bytes.{node_bytes}
use Rattle.tree_from_table.specs.Stored.{stored_node}
use Rattle.tree_bytes.proofs.Laying.{each_start, each_next, section-from, puts_of}
use Rattle.tree_from_table.proofs.nodes.put_nodes.Goals as goal

pub loop-i-init : goal.loop-i-init
loop-i-init c = let d = c.args.d.now in
    (omega arith, refl, each_start node_bytes (stored_node c.args.t.now d.category d.parent d.at d.len) _ _)

pub put_node-requires : goal.put_node-requires
put_node-requires c = (omega arith, omega (arith, c.loop-i.invariant.0, (puts_of c.byte.ensures.wrote (omega arith)).end, c.requires.0, c.requires.1))

pub loop-i-preserved : goal.loop-i-preserved
loop-i-preserved c = let d = c.args.d.now in let inv = c.loop-i.invariant in (
  omega (arith, inv.0, c.put_node.ensures.upper_bound),
  c.put_node.ensures.same_reference ∙ inv.1,
  each_next node_bytes (stored_node c.args.t.now d.category d.parent d.at d.len) c.loop-i.i inv.2 c.put_node.ensures.puts refl,
)

pub returns : goal.returns
returns c = let d = c.args.d.now in let inv = c.loop-i.invariant in
    let F = puts_of c.byte.ensures.wrote (omega arith) in record {
      same_reference = inv.1 ∙ c.byte.ensures.same_reference;
      puts = section-from node_bytes (stored_node c.args.t.now d.category d.parent d.at d.len) c.loop-i.i
          d.nodes (one_byte c.small.ensures (omega arith)) c.loop-i.auto.i-end c.loop-i-test.false F inv.2;
      upper_bound = omega (arith, inv.0, F.end, c.requires.0, c.requires.1);
    }
