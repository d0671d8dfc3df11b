use native.Mathlib.Omega.{arith}
use mathlib.Core.Path.{refl}
use Rattle.machine_symbols.proofs.SymbolLaws.{lists-start, lists-more, lists-end, listed-all}
use Rattle.machine_symbols.proofs.list.Goals as goal

pub loop-category-init : goal.loop-category-init
loop-category-init c = (omega arith, lists-start _ _ _ _ refl)

pub loop-category-preserved : goal.loop-category-preserved
loop-category-preserved c = (
  c.push_category.ensures.upper_bound,
  lists-more _ _ _ c.loop-category.category _ _ (c.push_category.ensures.by_index _ c.loop-category.invariant.1),
)

pub returns : goal.returns
returns c = listed-all _ _ _ (lists-end _ _ _ c.loop-category.category _ (omega arith) (omega arith) _ _ c.loop-category.invariant.1) c.slots-symbols.ensures
