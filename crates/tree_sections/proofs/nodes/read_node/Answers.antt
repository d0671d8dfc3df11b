use native.Mathlib.Omega.{arith}
use mathlib.Core.Path.{sym}
use Rattle.base_lists.proofs.Numbers.{one_byte}
use Rattle.table_sections.proofs.Readings.{passed-on, byte-read}
use Rattle.tree_sections.proofs.TreeReadings.{node-one, node-two, node-three, node-good}
use Rattle.tree_sections.proofs.nodes.read_node.Goals as goal

pub returns-in_err-category-clause-result_value : goal.returns-in_err-category-clause-result_value
returns-in_err-category-clause-result_value c = rw (passed-on c.from_residual.result c.from_residual.ensures) (node-one _ _ (sym c.in_err-category.ensures))

pub returns-in_err-parent-clause-result_value : goal.returns-in_err-parent-clause-result_value
returns-in_err-parent-clause-result_value c = rw (passed-on c.from_residual-in_err-parent.result c.from_residual-in_err-parent.ensures)
    (node-two _ _ (sym c.in_ok-category.ensures) (sym c.in_err-parent.ensures))

pub returns-in_err-len-clause-result_value : goal.returns-in_err-len-clause-result_value
returns-in_err-len-clause-result_value c = rw (passed-on c.from_residual-in_err-len.result c.from_residual-in_err-len.ensures)
    (node-three _ _ (sym c.in_ok-category.ensures) (sym c.in_ok-parent.ensures) (sym c.in_err-len.ensures.result_value))

pub returns-clause-result_value : goal.returns-clause-result_value
returns-clause-result_value c = node-good _ _ (sym c.in_ok-category.ensures) (sym c.in_ok-parent.ensures)
    (one_byte c.small.ensures (omega (arith, (byte-read _ _ _ _ _ _ (sym c.in_ok-category.ensures)).high)))
    (one_byte c.small-2.ensures (omega (arith, (byte-read _ _ _ _ _ _ (sym c.in_ok-parent.ensures)).high)))
    (sym c.in_ok-len.ensures.result_value)
