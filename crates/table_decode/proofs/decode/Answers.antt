use mathlib.Core.Path.{refl, sym}
use Rattle.table_sections.proofs.Padding.{clear}
use Rattle.table_sections.proofs.Readings.{passed-on}
use Rattle.table_decode.proofs.Judging.{refusal-fault}
use Rattle.table_decode.proofs.decode.Goals as goal

pub returns-in_err-l : goal.returns-in_err-l
returns-in_err-l c = rw (passed-on c.from_residual.result c.from_residual.ensures)
    (sym (refusal-fault _ _ (c.in_err-l.ensures (clear 8) (clear 8) (refl, refl, refl))))

pub judge_forms-requires : goal.judge_forms-requires
judge_forms-requires c = c.in_ok-l.ensures (clear 8) (clear 8) (refl, refl, refl)
