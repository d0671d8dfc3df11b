use Rattle.machine_library.proofs.MatchLaws.{match-refused, match-right}
use Rattle.machine_library.proofs.match_urn.Goals as goal

pub returns-in-Ok : goal.returns-in-Ok
returns-in-Ok c = match-right c.args.t.now c.in-Ok.d c.in-Ok.ensures c.args.uri.now c.uses.ensures c.answer.ensures

pub returns-in-Err : goal.returns-in-Err
returns-in-Err c = match-refused c.args.t.now c.args.uri.now c.in-Err.r c.in-Err.ensures c.from.ensures c.unused.ensures
