use mathlib.Core.Path.{ap, ◌∙◌}
use Prim.Native.Nat.{ℕ}
use Rattle.base_numbers.specs.Refusals.{refusal_number}
use Rattle.log_library.specs.Verdict.{refused}
use Rattle.log_library.proofs.JudgeLaws.{refused-table, decoded-log}
use Rattle.log_library.proofs.check.Goals as goal

pub judge-requires : goal.judge-requires
judge-requires c = c.in-Ok.ensures

pub returns-then-is_log : goal.returns-then-is_log
returns-then-is_log c = decoded-log _ _ c.in-Ok.ensures.refusal c.is_log.ensures c.if-is_log.true c.judge.ensures

pub returns-else-is_log : goal.returns-else-is_log
unfolding refusal_number
returns-else-is_log c = decoded-log _ _ c.in-Ok.ensures.refusal c.is_log.ensures c.if-is_log.false (c.without_call.ensures ∙ ap (λ (k : ℕ). refused k) c.from.ensures)

pub returns-in-Err : goal.returns-in-Err
returns-in-Err c = refused-table _ _ _ c.in-Err.ensures (c.without_call-in-Err.ensures ∙ ap (λ (k : ℕ). refused k) c.from-in-Err.ensures)
