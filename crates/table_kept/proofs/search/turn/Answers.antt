use Rattle.table_kept.specs.Marks.{next_in}
use Rattle.table_kept.proofs.SearchLaws.{turn-room, turn-next, turn-stays}
use Rattle.table_kept.proofs.search.turn.Goals as goal

pub expand_by-requires : goal.expand_by-requires
expand_by-requires c = (
  c.requires.0,
  turn-room (next_in c.args.all.now) c.args.nodes c.args.h c.args.i c.requires.1 c.requires.2 c.if-i-h.true c.at.ensures,
)

pub returns-then-i-h : goal.returns-then-i-h
returns-then-i-h c = turn-next (next_in c.args.all.now) c.args.nodes c.args.h c.args.i c.requires.1 c.if-i-h.true c.at.ensures c.expand_by.ensures

pub returns : goal.returns
returns c = turn-stays (next_in c.args.all.now) c.args.nodes c.args.h c.args.i c.requires.1 c.if-i-h.false
