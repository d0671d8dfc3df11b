use Rattle.std.proofs.Common.{rules}
use mathlib.Core.Path.{sym, ap, ◌∙◌}
use Rattle.machine_symbols.specs.Listed.{triple_index}
use Rattle.machine_symbols.proofs.SymbolLaws.{number-named, number-other, number-unnamed}
use Rattle.machine_symbols.proofs.number.Goals as goal
use Rattle.machine_symbols.proofs.number.Goals.{else-k-n-via-then-k-n+else-is, else-k-n-via-else-k-n}

pub returns-then-is : goal.returns-then-is
returns-then-is c = number-named _ _ _ _ _ _ _ c.min-n.ensures c.kind_for-kind.ensures c.slot.ensures c.entry-k.ensures c.if-k-n.true c.is.ensures c.if-is.true

pub returns : goal.returns
returns c =
    let f = c.find.ensures ∙ ap (triple_index _ _ _ _ 0) (sym c.min-n.ensures) in
    elim c.else-k-n.branch [
      | else-k-n-via-then-k-n+else-is w ↦ number-other _ _ _ _ _ _ _ c.min-n.ensures c.kind_for-kind.ensures c.slot.ensures c.entry-k.ensures f w.is.ensures w.if-is.false
      | else-k-n-via-else-k-n w ↦ number-unnamed _ _ _ _ _ _ _ c.min-n.ensures c.kind_for-kind.ensures c.slot.ensures c.entry-k.ensures f w.if-k-n.false
    ]
