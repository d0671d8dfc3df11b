use Rattle.std.proofs.Common.{rules, ◌≡◌, get_or, max}
use native.Mathlib.Omega.{arith}
use borrow.Author.Tests.{lt-ltb}
use Rattle.base_lists.specs.Lists.{all_below}
use Rattle.machine_check.proofs.ImageLaws.{below_all, most-more, most-end}
use Rattle.machine_check.proofs.form.targets_below.Goals as goal

pub returns-then-n-ge-MOST_STATES : goal.returns-then-n-ge-MOST_STATES
returns-then-n-ge-MOST_STATES c = below_all c.args.im.now c.args.categories c.args.j (λ k. omega (arith, c.type_inv.im k)) c.if-n-ge-MOST_STATES.true c.requires.3

pub loop-t-init : goal.loop-t-init
unfolding all_below
loop-t-init c = lt-ltb 0 c.args.n (omega arith)

pub loop-t-preserved : goal.loop-t-preserved
loop-t-preserved c =
    let e : c.max-most.result ≡ max c.loop-t.most (get_or c.part-row.result.now c.loop-t.t-index 0) = search rules in
    most-more c.args.im.now c.args.categories c.args.j c.args.n c.place.ensures.0 c.at-m.ensures.0 c.requires.3 c.part-row.ensures c.loop-t.t-index c.loop-t.most
    c.loop-t.invariant c.loop-t-test.true e

pub returns : goal.returns
returns c =
    most-end c.args.im.now c.args.categories c.args.j c.args.n c.place.ensures.0 c.at-m.ensures.0 c.requires.3 c.part-row.ensures c.loop-t.t-index c.loop-t.most
    c.loop-t.invariant (omega arith) c.loop-t-test.false (omega arith) c.from.ensures
