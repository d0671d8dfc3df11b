use Rattle.std.proofs.Common.{length}
use Rattle.small_classes.proofs.FoundLaws.{visit-old, visit-room, visit-new}
use Rattle.small_classes.proofs.states.visit.Goals as goal

pub returns-then-seen-at-ne0 : goal.returns-then-seen-at-ne0
returns-then-seen-at-ne0 c = visit-old (length c.args.list.now) c.args.list.now c.args.seen.now c.args.count c.requires.0 c.args.x c.from-at.result c.requires.1 c.from-at.ensures c.if-seen-at-ne0.true

pub bounds-list-count : goal.bounds-list-count
bounds-list-count c = visit-room (length c.args.list.now) c.args.list.now c.args.seen.now c.args.count c.requires.0 c.args.x c.from-at.result c.requires.1 c.from-at.ensures c.if-seen-at-ne0.false

pub returns : goal.returns
returns c = visit-new (length c.args.list.now) c.args.list.now c.args.seen.now c.args.count c.requires.0 c.args.x c.from-at.result c.requires.1 c.from-at.ensures c.if-seen-at-ne0.false
