use Rattle.std.proofs.Common.{◌≡◌, length, max, ◌∙◌, refl, ap, rules, arith}
use Rattle.base_lists.specs.Search.{highest}
use Rattle.base_lists.proofs.Search.{highest-none, highest-more}
use Rattle.theory_minimal.specs.Proposal.{class_of}
use Rattle.small_classes.proofs.states.highest_class.Goals as goal

pub loop-x-init : goal.loop-x-init
loop-x-init c = (highest-none (class_of c.args.p.now), omega arith)

pub loop-x-preserved : goal.loop-x-preserved
loop-x-preserved c =
    let e : c.max-most.result ≡ max c.loop-x.most (class_of c.args.p.now c.loop-x.x-index) = search rules in
    (highest-more (class_of c.args.p.now) c.loop-x.x-index c.loop-x.most _ c.max-most.result c.loop-x.invariant.0 refl e, omega (arith, e, c.type_inv.p c.loop-x.x-index))

pub returns : goal.returns
returns c =
    let e : c.loop-x.x-index ≡ length c.args.p.now = omega arith in
    (c.loop-x.invariant.0 ∙ ap (highest (class_of c.args.p.now)) e, c.loop-x.invariant.1)
