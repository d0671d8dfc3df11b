use Rattle.std.proofs.Common.{◌∙◌, arith}
use Rattle.table_kept.specs.Marks.{next_in}
use Rattle.table_kept.proofs.SearchLaws.{turns-start, turns-end}
use Rattle.table_kept.proofs.search.discover.Goals as goal

pub loop-i-init : goal.loop-i-init
loop-i-init c = c.start-h.ensures ∙ turns-start (next_in c.args.all.now) c.args.nodes

pub returns : goal.returns
returns c = c.loop-i.invariant ∙ turns-end (next_in c.args.all.now) c.args.nodes c.loop-i.i c.args.signals (omega arith)
