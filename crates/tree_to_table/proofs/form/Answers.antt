use Rattle.std.proofs.Common.{rules}
use Rattle.tree_to_table.proofs.Ancestry.{well-grown, ready, eight-read, old-formed}
use Rattle.tree_bytes.proofs.Laying.{finish-laid, names-put}
use Rattle.tree_to_table.proofs.form.Goals as goal

pub put_signals-requires : goal.put_signals-requires
put_signals-requires c = let x = c.args.x.now in
    let d = c.args.d.now in
    let s = d.sections in
    let G = well-grown x s.name_at s.name_len s.category s.parent s.at s.len s.signal s.number s.counts c.requires.read c.requires.right in (
      c.requires.read.held.few-signals,
      c.requires.read.held.few-numbers,
      c.names-w.ensures.few,
      eight-read x s.name_at s.name_len s.category s.parent s.at s.len s.signal s.number s.counts G,
      ready x s.name_at s.name_len s.category s.parent s.at s.len s.signal s.number s.counts G d.size d.depth c.requires.measured.sizes
          c.requires.measured.depths c.requires.right,
    )

pub returns : goal.returns
returns c = let x = c.args.x.now in
    let d = c.args.d.now in
    let s = d.sections in
    let G = well-grown x s.name_at s.name_len s.category s.parent s.at s.len s.signal s.number s.counts c.requires.read c.requires.right in
    let w = old-formed x s.name_at s.name_len s.category s.parent s.at s.len s.signal s.number s.counts G d.size d.depth c.requires.measured.sizes
    c.requires.measured.depths (names-put _ _ _ _ _ _ _ c.names-w.ensures.result_after c.requires.read.few-categories c.names-w.ensures.few)
    c.put_signals.ensures.puts c.requires.right c.room_for-fits.ensures (finish-laid _ _ _ _ (c.finish.ensures.value, c.finish.ensures.buf_after)) in
    record { value = w.0; buf_after = search (rules, w.1) }
