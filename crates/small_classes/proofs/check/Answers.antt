use Rattle.small_classes.proofs.CheckLaws.{many-fits, long-fits}
use Rattle.small_classes.proofs.check.Goals as goal
use Rattle.small_classes.proofs.check.Goals.{then-n-gt-MOST_STATES-via-then-n-gt-MOST_STATES, then-n-gt-MOST_STATES-via-else-n-gt-MOST_STATES+then-p-n}

pub returns-then-n-gt-MOST_STATES : goal.returns-then-n-gt-MOST_STATES
returns-then-n-gt-MOST_STATES c = let r = c.args.rows in
    elim c.then-n-gt-MOST_STATES.branch [
      | then-n-gt-MOST_STATES-via-then-n-gt-MOST_STATES w ↦ many-fits r.bytes.now r.states r.head r.symbols c.args.p.now w.if-n-gt-MOST_STATES.true
      | then-n-gt-MOST_STATES-via-else-n-gt-MOST_STATES+then-p-n w ↦ long-fits r.bytes.now r.states r.head r.symbols c.args.p.now w.if-p-n.true
    ]
