use Rattle.std.proofs.Common.{◌≡◌, length, ◌∙◌, arith}
use Rattle.base_lists.proofs.Filled.{filled_more, filled-all}
use Rattle.theory_minimal.specs.Refine.{leader, same_class}
use Rattle.small_classes.proofs.numbers.first_states.Goals as goal

pub loop-i-preserved : goal.loop-i-preserved
loop-i-preserved c =
    filled_more (leader (same_class c.args.p.now)) c.loop-i.q c.loop-i.i _ (omega arith) c.first_same.ensures.0 c.loop-i.invariant

pub returns : goal.returns
returns c =
    let e : length c.loop-i.q ≡ length c.args.p.now = c.loop-i.auto.q ∙ c.requires.1 in
    filled-all (leader (same_class c.args.p.now)) c.loop-i.q (length c.args.p.now) c.loop-i.i e (omega arith) c.loop-i.invariant
