use native.Mathlib.Omega.{arith}
use Rattle.table_places.proofs.RowLaws.{slot-first, slot-second, slot-both}
use Rattle.node_search.proofs.TextLaws.{text_in_lem}
use Rattle.table_places.proofs.places.same_slot.Goals as goal
use Rattle.table_places.proofs.places.same_slot.Goals.{then-x-eq0-via-then-x-eq0, then-x-eq0-via-else-x-eq0+then-y-eq0}

pub returns-then-x-eq0 : goal.returns-then-x-eq0
returns-then-x-eq0 c = elim c.then-x-eq0.branch [
  | then-x-eq0-via-then-x-eq0 w ↦ slot-first _ _ _ _ _ w.if-x-eq0.true
  | then-x-eq0-via-else-x-eq0+then-y-eq0 w ↦ slot-second _ _ _ _ _ w.if-x-eq0.false w.if-y-eq0.true
]

pub returns : goal.returns
returns c = slot-both _ _ _ _ _ c.if-x-eq0.false c.if-y-eq0.false c.same.ensures
    (text_in_lem _ _ _ _ _ c.text_at.ensures.result_value (omega arith)) (text_in_lem _ _ _ _ _ c.text_at-2.ensures.result_value (omega arith))
