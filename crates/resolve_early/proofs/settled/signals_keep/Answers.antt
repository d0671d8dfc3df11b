use Rattle.base_lists.proofs.Below.{all-false, all_true, all-next, all_none}
use Rattle.resolve_early.proofs.SettledLaws.{signal-is}
use Rattle.resolve_early.proofs.settled.signals_keep.Goals as goal

pub loop-s-init : goal.loop-s-init
loop-s-init c = all_none _

pub returns-then-not-beside_keeps : goal.returns-then-not-beside_keeps
returns-then-not-beside_keeps c = all-false _ _ _ c.min-s-end.ensures c.loop-s-test.true
    (signal-is _ _ _ _ _ _ _ c.row_at-row.ensures c.beside_keeps.ensures)
    c.if-not-beside_keeps.true

pub loop-s-preserved : goal.loop-s-preserved
loop-s-preserved c = all-next _ _ c.loop-s.invariant
    (signal-is _ _ _ _ _ _ _ c.row_at-row.ensures c.beside_keeps.ensures) c.if-not-beside_keeps.false

pub returns : goal.returns
returns c = all_true _ _ _ c.min-s-end.ensures c.loop-s-test.false c.loop-s.auto.s-end c.loop-s.invariant
