use mathlib.Core.Path.{sym}
use Rattle.base_numbers.specs.Refusals.{refusal_number}
use Rattle.table_decode.proofs.Judging.{names-unformed, urns-unformed, all-formed}
use Rattle.table_names.proofs.RoomLaws.{formed-in}
use Rattle.table_decode.proofs.judge_forms.Goals as goal
use Rattle.table_decode.proofs.judge_forms.Goals.{else-names_formed-via-then-names_formed+else-urns_formed, else-names_formed-via-else-names_formed}

pub judge_names-requires : goal.judge_names-requires
judge_names-requires c = all-formed c.args.t.now c.args.name_at.now c.args.name_len.now c.args.at.now c.args.len.now c.args.signal.now c.args.l c.requires
    (formed-in _ _ _ _ c.names_formed.ensures c.requires.few-categories) c.if-names_formed.true c.urns_formed.ensures c.if-urns_formed.true

pub returns : goal.returns
unfolding refusal_number
returns c = elim c.else-names_formed.branch [
  | else-names_formed-via-then-names_formed+else-urns_formed w ↦ sym (urns-unformed c.args.t.now c.args.name_at.now c.args.name_len.now
      c.args.at.now c.args.len.now c.args.signal.now c.args.l c.requires (formed-in _ _ _ _ c.names_formed.ensures c.requires.few-categories)
      w.urns_formed.ensures w.if-urns_formed.false)
  | else-names_formed-via-else-names_formed w ↦ sym (names-unformed c.args.t.now c.args.name_at.now c.args.name_len.now
      c.args.at.now c.args.len.now c.args.signal.now c.args.l c.requires (formed-in _ _ _ _ c.names_formed.ensures c.requires.few-categories)
      w.if-names_formed.false)
]
