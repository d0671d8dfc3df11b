use native.Mathlib.Omega.{arith}
use mathlib.Core.Path.{◌∙◌}
use lib.ListN.{length}
use Rattle.base_numbers.proofs.Refusals.{refusal-some}
use Rattle.tree_to_table.proofs.Ancestry.{not-from}
use Rattle.tree_to_table.proofs.write.Goals as goal

pub form-requires : goal.form-requires
form-requires c = let M = c.in-Ok.ensures in record { right = M.refusal; read = M.holds.read; measured = M.holds.measured }

pub returns-in-Err : goal.returns-in-Err
returns-in-Err c = let w = not-from (length c.args.buf.now) (λ z. omega (arith, refusal-some c.in-Err.k, c.from.ensures, z)) c.refuse.ensures.value c.refuse.ensures.buf_after
    c.args.x.now (c.from.ensures ∙ c.in-Err.ensures) in record { value = w.0; buf_after = w.1 }
