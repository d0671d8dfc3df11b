use native.Mathlib.Omega.{arith}
use mathlib.Core.Path.{sym}
use Rattle.base_lists.proofs.Tabulated.{index-start, index-next}
use Rattle.theory_resolution.specs.Table.{urn}
use Rattle.theory_resolution.specs.Nodes.{same_urn}
use Rattle.base_text.specs.Text.{fields}
use Rattle.table_nodes.proofs.NodeArrays.{number-hit, number-none}
use Rattle.table_nodes.proofs.Nodes.find.Goals as goal

pub loop-i-init : goal.loop-i-init
loop-i-init c = index-start same_urn (urn c.args.c (fields 58 c.args.s.now)) _

pub returns-then-is_at-clause-number : goal.returns-then-is_at-clause-number
returns-then-is_at-clause-number c = (number-hit _ _ _ _ _ c.loop-i.invariant c.loop-i-test.true c.is_at.ensures c.if-is_at.true, omega arith)

pub loop-i-preserved : goal.loop-i-preserved
loop-i-preserved c = index-next same_urn (urn c.args.c (fields 58 c.args.s.now)) _ _ c.args.self.now.count c.loop-i.invariant c.is_at.ensures c.if-is_at.false

pub returns-clause-number : goal.returns-clause-number
returns-clause-number c = sym (number-none _ _ _ _ _ c.loop-i.invariant (omega arith) c.loop-i-test.false)
