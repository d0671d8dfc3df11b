use Rattle.table_kept.proofs.SearchLaws.{add-there, add-room, add-new}
use Rattle.table_kept.proofs.found.Found.with.Goals as goal

pub returns-then-holds : goal.returns-then-holds
returns-then-holds c = add-there c.args.self c.args.s c.holds.ensures c.if-holds.true

pub bounds-signals-self : goal.bounds-signals-self
bounds-signals-self c = add-room c.args.self c.args.s c.holds.ensures c.if-holds.false c.requires

pub returns : goal.returns
returns c = add-new c.args.self c.args.s c.holds.ensures c.if-holds.false c.requires
