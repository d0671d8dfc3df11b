use native.Mathlib.Omega.{arith}
use mathlib.Core.Path.{◌∙◌, sym}
use Rattle.node_step.proofs.StepLaws.{position-is}
use Rattle.node_step.proofs.find_signal.Goals as goal

pub returns-in_err-i : goal.returns-in_err-i
returns-in_err-i c = c.from_residual.ensures ∙ sym c.in_err-i.was ∙ c.first_row.ensures ∙ position-is _ _ _ (omega arith) c.min.ensures

pub returns : goal.returns
returns c = sym c.in_ok-i.was ∙ c.first_row.ensures ∙ position-is _ _ _ (omega arith) c.min.ensures
