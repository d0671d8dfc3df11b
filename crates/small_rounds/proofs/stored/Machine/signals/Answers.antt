use Rattle.std.proofs.Common.{◌≡◌, length, ◌∙◌, arith}
use Rattle.base_lists.proofs.Filled.{filled-all}
use Rattle.small_rounds.specs.Rows.{machine_in}
use Rattle.small_rounds.proofs.stored.Machine.signals.Goals as goal

pub returns : goal.returns
returns c =
    let e : length c.loop-i.p ≡ c.args.self.rows.states = c.loop-i.auto.p ∙ c.requires in
    filled-all (machine_in c.args.self.rows).signal c.loop-i.p c.args.self.rows.states c.loop-i.i e (omega arith) c.loop-i.invariant
