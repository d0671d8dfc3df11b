use Rattle.base_numbers.specs.Refusals.{refusal_number}
use Rattle.table_sections.proofs.Readings.{passed-on}
use Rattle.table_names.proofs.RoomLaws.{formed-in}
use Rattle.tree_nodes.proofs.ByArrays.{lasts-in, judges-in}
use Rattle.tree_decode.proofs.Composed.{at-fault, name-unformed, last-unformed, not-grown, grown-as}
use Rattle.tree_decode.proofs.decode.Goals as goal
use Rattle.tree_decode.proofs.decode.Goals.{then-not-names_formed-via-then-not-names_formed, then-not-names_formed-via-else-not-names_formed+then-not-lasts_formed}

pub returns-in_err-sections : goal.returns-in_err-sections
returns-in_err-sections c = rw (passed-on c.from_residual.result c.from_residual.ensures) (at-fault _ _ c.in_err-sections.ensures)

pub returns-then-not-names_formed : goal.returns-then-not-names_formed
unfolding refusal_number
returns-then-not-names_formed c = let h = c.in_ok-sections.ensures in
    let s = c.in_ok-sections.sections in
    let f = formed-in _ _ _ _ c.names_formed.ensures h.few-categories in
    elim c.then-not-names_formed.branch [
      | then-not-names_formed-via-then-not-names_formed w ↦
          name-unformed c.args.t.now s.name_at s.name_len s.category s.parent s.at s.len s.signal s.number s.counts h f w.if-not-names_formed.true
      | then-not-names_formed-via-else-not-names_formed+then-not-lasts_formed w ↦
          last-unformed c.args.t.now s.name_at s.name_len s.category s.parent s.at s.len s.signal s.number s.counts h f w.if-not-names_formed.false
          (lasts-in _ _ _ _ w.lasts_formed.ensures h.few-nodes) w.if-not-lasts_formed.true
    ]

pub returns-then-not-grown : goal.returns-then-not-grown
unfolding refusal_number
returns-then-not-grown c = let h = c.in_ok-sections.ensures in
    let s = c.in_ok-sections.sections in
    not-grown c.args.t.now s.name_at s.name_len s.category s.parent s.at s.len s.signal s.number s.counts h
    (formed-in _ _ _ _ c.names_formed.ensures h.few-categories) c.if-not-names_formed.false
    (lasts-in _ _ _ _ c.lasts_formed.ensures h.few-nodes) c.if-not-lasts_formed.false
    (judges-in _ _ _ _ _ _ _ _ _ c.grown.ensures) c.if-not-grown.true

pub judge_sizes-requires : goal.judge_sizes-requires
judge_sizes-requires c = let h = c.in_ok-sections.ensures in
    let s = c.in_ok-sections.sections in
    grown-as c.args.t.now s.name_at s.name_len s.category s.parent s.at s.len s.signal s.number s.counts h
    (formed-in _ _ _ _ c.names_formed.ensures h.few-categories) c.if-not-names_formed.false
    (lasts-in _ _ _ _ c.lasts_formed.ensures h.few-nodes) c.if-not-lasts_formed.false
    (judges-in _ _ _ _ _ _ _ _ _ c.grown.ensures) c.if-not-grown.false

pub returns-in_err-judge_sizes : goal.returns-in_err-judge_sizes
returns-in_err-judge_sizes c = rw (passed-on c.from_residual-in_err-judge_sizes.result c.from_residual-in_err-judge_sizes.ensures) c.in_err-judge_sizes.ensures.value
