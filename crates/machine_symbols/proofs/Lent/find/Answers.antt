use native.Mathlib.Omega.{arith}
use native.Mathlib.Nat.{sub-zero}
use mathlib.Core.Path.{ap, sym, ◌∙◌}
use Rattle.machine_symbols.specs.Listed.{triple_index}
use Rattle.machine_symbols.proofs.SymbolLaws.{index-found, index-more, index-end}
use Rattle.machine_symbols.proofs.Lent.find.Goals as goal

pub loop-k-init : goal.loop-k-init
loop-k-init c = ap (triple_index _ _ _ _ 0) (sym (sub-zero _))

pub returns-then-is : goal.returns-then-is
returns-then-is c = index-found _ c.args.s _ _ c.loop-k.invariant c.loop-k-test.true c.is.ensures c.if-is.true ∙ ap (triple_index _ _ _ _ 0) c.min-n.ensures

pub loop-k-preserved : goal.loop-k-preserved
loop-k-preserved c = index-more _ c.args.s _ _ c.loop-k.invariant c.loop-k-test.true c.is.ensures c.if-is.false

pub returns : goal.returns
returns c = index-end _ c.args.s _ c.loop-k.k c.loop-k.invariant (omega arith) c.loop-k-test.false ∙ ap (triple_index _ _ _ _ 0) c.min-n.ensures
