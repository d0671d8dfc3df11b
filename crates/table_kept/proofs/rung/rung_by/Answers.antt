use Rattle.std.proofs.Common.{ap, ◌∙◌}
use Rattle.table_kept.specs.declared.rung.Rung.{Rung}
use Rattle.table_kept.proofs.AnswerLaws.{rung-all}
use Rattle.table_kept.proofs.rung.rung_by.Goals as goal

pub returns : goal.returns
returns c =
    ap (λ (r : Rung). record { refusal = r.refusal; rings = 1; len = c.args.w.len; marks = c.front.result }) c.refused.ensures ∙ rung-all c.args.w c.front.ensures
