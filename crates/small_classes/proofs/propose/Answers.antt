use Rattle.small_classes.proofs.CheckLaws.{many-proposed, other-proposed}
use Rattle.small_classes.proofs.propose.Goals as goal
use Rattle.small_classes.proofs.propose.Goals.{then-n-gt-MOST_STATES-via-then-n-gt-MOST_STATES, then-n-gt-MOST_STATES-via-else-n-gt-MOST_STATES+then-out-n}

pub returns-then-n-gt-MOST_STATES : goal.returns-then-n-gt-MOST_STATES
returns-then-n-gt-MOST_STATES c = let r = c.args.rows in
    elim c.then-n-gt-MOST_STATES.branch [
      | then-n-gt-MOST_STATES-via-then-n-gt-MOST_STATES w ↦ many-proposed r.bytes.now r.states r.head r.symbols c.args.out.now w.if-n-gt-MOST_STATES.true
      | then-n-gt-MOST_STATES-via-else-n-gt-MOST_STATES+then-out-n w ↦ other-proposed r.bytes.now r.states r.head r.symbols c.args.out.now w.if-out-n.true
    ]
