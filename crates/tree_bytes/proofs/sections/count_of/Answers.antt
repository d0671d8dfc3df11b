use native.Mathlib.Omega.{arith}
use mathlib.Core.Path.{◌∙◌, sym}
use Rattle.tree_sections.specs.Held.{number_at}
use Rattle.tree_bytes.proofs.Laying.{none-counted, count-hit, count-miss, counted-end, count-over, count-all}
use Rattle.tree_bytes.proofs.sections.count_of.Goals as goal
use Rattle.tree_bytes.proofs.sections.count_of.Goals.{then-from-s, else-from-s}

pub returns-then-m-gt-MOST_TABLE_URNS : goal.returns-then-m-gt-MOST_TABLE_URNS
returns-then-m-gt-MOST_TABLE_URNS c = count-over _ _ _ _ c.if-m-gt-MOST_TABLE_URNS.true

pub loop-i-init : goal.loop-i-init
loop-i-init c = (omega arith, none-counted c.args.s (number_at c.args.signal.now c.args.number.now))

pub loop-i-preserved : goal.loop-i-preserved
loop-i-preserved c = let f = number_at c.args.signal.now c.args.number.now in
    let inv = c.loop-i.invariant in
    elim c.if-from-s.branch [
      | then-from-s w ↦ (omega (arith, w.n-is, inv.0), w.n-is ∙ count-hit c.args.s f c.loop-i.i inv.1 c.from.ensures w.if-from-s.true)
      | else-from-s w ↦ (omega (arith, w.n-is, inv.0), w.n-is ∙ count-miss c.args.s f c.loop-i.i inv.1 c.from.ensures w.if-from-s.false)
    ]

pub returns : goal.returns
returns c = count-all _ _ _ _ c.if-m-gt-MOST_TABLE_URNS.false
    (counted-end c.args.s (number_at c.args.signal.now c.args.number.now) c.loop-i.i c.args.m (omega arith) (omega arith) c.loop-i.invariant.1)
