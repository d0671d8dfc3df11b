use mathlib.Core.Path.{ap, ◌∙◌}
use lib.ListN.{replicate}
use Rattle.machine_library.proofs.TableRight.{zeros-refused}
use Rattle.machine_library.proofs.build.Goals as goal

pub returns-in-Err-clause-buf_after : goal.returns-in-Err-clause-buf_after
returns-in-Err-clause-buf_after c = c.refuse.ensures.buf_after ∙ ap (λ n. replicate n 0) c.written.auto.buf ∙ zeros-refused _ _ c.in-Err.r c.in-Err.ensures.value
