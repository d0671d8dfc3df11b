use lib.ListN.{length}
use native.Mathlib.Omega.{arith}
use mathlib.Core.Path.{◌∙◌}
use Rattle.base_numbers.proofs.Refusals.{refusal-some}
use Rattle.tree_from_table.proofs.Numbering.{not-to, stored-as}
use Rattle.tree_from_table.proofs.write.Goals as goal

pub form-requires : goal.form-requires
form-requires c = stored-as c.args.t.now c.in-Ok.d c.in-Ok.ensures

pub returns-in-Err : goal.returns-in-Err
returns-in-Err c = let w = not-to (length c.args.buf.now) (λ z. omega (arith, refusal-some c.in-Err.k, c.from.ensures, z)) c.refuse.ensures.value c.refuse.ensures.buf_after c.args.t.now (c.from.ensures ∙ c.in-Err.ensures) in record { value = w.0; buf_after = w.1 }
