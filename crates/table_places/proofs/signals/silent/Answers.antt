use native.Mathlib.Omega.{arith}
use mathlib.Core.Path.{◌∙◌}
use borrow.Author.Tests.{eq-eqb}
use Rattle.table_places.proofs.FilledLaws.{silent-from, silent-true}
use Rattle.table_places.proofs.signals.silent.Goals as goal

pub returns-then-m-eq0 : goal.returns-then-m-eq0
returns-then-m-eq0 c = eq-eqb c.args.m 0 c.if-m-eq0.true ∙ silent-true _ c.args.signal.now (omega (arith, c.if-m-eq0.true))

pub returns-else-m-eq0 : goal.returns-else-m-eq0
returns-else-m-eq0 c = silent-from c.args.m _ (omega (arith, c.if-m-eq0.false))
