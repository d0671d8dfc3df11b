use native.Mathlib.Omega.{arith}
use mathlib.Core.Path.{refl}
use Rattle.tree_from_table.proofs.Numbering.{eight-stored, new-formed}
use Rattle.tree_bytes.proofs.Laying.{finish-laid, names-put}
use Rattle.std.proofs.Common.{rules}
use Rattle.tree_from_table.proofs.form.Goals as goal

pub put_nodes-requires : goal.put_nodes-requires
put_nodes-requires c = (c.requires.nodes-in.few-nodes, c.names-w.ensures.few)

pub put_signals-requires : goal.put_signals-requires
put_signals-requires c = let d = c.args.d.now in (
  c.requires.few-signals,
  c.stored_numbers-m.ensures.upper_bound,
  omega (arith, c.put_nodes.ensures.upper_bound, c.names-w.ensures.few),
  eight-stored c.args.t.now d.name_at d.name_len d.category d.parent d.at d.len
      d.categories d.nodes d.signals c.requires c.stored_numbers-m.new.signal c.stored_numbers-m.new.number c.stored_numbers-m.result c.stored_numbers-m.ensures.result_after,
)

pub returns : goal.returns
returns c = let d = c.args.d.now in
    let w = new-formed c.args.t.now d.name_at d.name_len d.category d.parent d.at d.len
    d.categories d.nodes d.signals c.requires c.stored_numbers-m.new.signal c.stored_numbers-m.new.number c.stored_numbers-m.result c.stored_numbers-m.ensures.result_after
    (names-put _ _ _ _ _ _ _ c.names-w.ensures.result_after c.requires.names.few-names c.names-w.ensures.few) c.put_nodes.ensures.puts
    c.put_signals.ensures.puts refl (finish-laid _ _ _ _ (c.finish.ensures.value, c.finish.ensures.buf_after)) in record { value = w.0; buf_after = search (rules, w.1) }
