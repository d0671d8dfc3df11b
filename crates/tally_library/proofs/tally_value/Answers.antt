use Rattle.tally_library.proofs.TallyLaws.{tallied-at}
use Rattle.tally_library.proofs.tally_value.Goals as goal

pub returns : goal.returns
returns c = tallied-at c.args.t.now c.args.records.now c.args.refusals.now c.args.v.now c.judge-r.result c.place-s.result c.add.result c.add.new.records
    c.judge-r.new.refusals c.judge-r.ensures c.place-s.ensures c.add.ensures
