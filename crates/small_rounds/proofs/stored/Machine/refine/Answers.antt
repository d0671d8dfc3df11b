use Rattle.std.proofs.Common.{◌≡◌, length, ◌∙◌, arith}
use Rattle.base_lists.proofs.Filled.{filled_more, filled-all}
use Rattle.theory_minimal.specs.Refine.{leader, same_row}
use Rattle.small_rounds.specs.Rows.{machine_in}
use Rattle.small_rounds.proofs.stored.Machine.refine.Goals as goal

pub loop-i-preserved : goal.loop-i-preserved
loop-i-preserved c =
    filled_more (leader (same_row (machine_in c.args.self.rows) c.args.p.now)) c.loop-i.q c.loop-i.i _ (omega arith) c.first_like.ensures.0 c.loop-i.invariant

pub returns : goal.returns
returns c =
    let e : length c.loop-i.q ≡ c.args.self.rows.states = c.loop-i.auto.q ∙ c.requires.1 in
    filled-all (leader (same_row (machine_in c.args.self.rows) c.args.p.now)) c.loop-i.q c.args.self.rows.states c.loop-i.i e (omega arith) c.loop-i.invariant
