use Rattle.std.proofs.Common.{◌∙◌, arith}
use Rattle.table_kept.specs.Marks.{next_in}
use Rattle.table_kept.specs.Held.{signals_in}
use Rattle.table_kept.proofs.SearchLaws.{expand-start, expand-room, expand-more, expand-end}
use Rattle.table_kept.proofs.search.expand_by.Goals as goal

pub loop-k-init : goal.loop-k-init
loop-k-init c = expand-start (next_in c.args.all.now) c.args.s (signals_in c.args.h)

pub with-found-requires : goal.with-found-requires
with-found-requires c =
    expand-room (next_in c.args.all.now) c.args.s (signals_in c.args.h) c.loop-k.k c.args.nodes (omega arith) c.loop-k.invariant c.target.ensures c.requires.1

pub loop-k-preserved : goal.loop-k-preserved
loop-k-preserved c =
    c.with-found.ensures ∙ expand-more (next_in c.args.all.now) c.args.s (signals_in c.args.h) c.loop-k.k c.loop-k.invariant c.target.ensures

pub returns : goal.returns
returns c = c.loop-k.invariant ∙ expand-end (next_in c.args.all.now) c.args.s (signals_in c.args.h) c.loop-k.k c.args.nodes (omega arith)
