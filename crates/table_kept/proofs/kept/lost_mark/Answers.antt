use Rattle.std.proofs.Common.{ap, ◌∙◌, ◌+◌}
use lib.ListN.{set}
use Rattle.table_kept.specs.declared.kept.Kept.{Kept}
use Rattle.table_kept.proofs.AnswerLaws.{lost-all}
use Rattle.table_kept.proofs.kept.lost_mark.Goals as goal

pub returns : goal.returns
returns c = let w = c.args.w in
    ap (λ (r : Kept). record { refusal = r.refusal; kept = r.kept; rings = c.args.signal; len = w.len + 1; marks = set c.front-marks.result w.len c.args.node }) c.refused.ensures
    ∙ lost-all w c.args.node c.args.signal c.requires c.front-marks.ensures
