use mathlib.Core.Path.{refl, sym}
use Rattle.base_numbers.specs.Refusals.{refusal_number}
use Rattle.table_decode.proofs.Judging.{names-twice, urns-strange, names-unused, listed-as}
use Rattle.table_names.proofs.RoomLaws.{distinct-in, used-in, listed_in, indexed-in}
use Rattle.table_decode.proofs.judge_names.Goals as goal
use Rattle.table_decode.proofs.judge_names.Goals.{else-names_distinct-via-then-names_distinct+then-index_urns+else-all_used, else-names_distinct-via-then-names_distinct+else-index_urns, else-names_distinct-via-else-names_distinct}

pub place_signals-requires : goal.place_signals-requires
place_signals-requires c = listed-as c.args.t.now c.args.name_at.now c.args.name_len.now c.args.at.now c.args.len.now c.args.signal.now c.args.l c.requires
    (indexed-in _ _ _ _ _ _ _ c.requires.read.few-categories (c.index_urns.ensures.indexed (
      c.requires.short,
      c.requires.read.few-categories,
      c.requires.read.few-urns,
      refl,
    ) c.if-index_urns.true)) (distinct-in _ _ _ _ c.names_distinct.ensures c.requires.read.few-categories) c.if-names_distinct.true
    (used-in _ _ _ c.all_used.ensures c.requires.read.few-urns) c.if-all_used.true (listed_in _ _ _ _ _ _ _ c.requires.read.few-categories
    c.index_urns.ensures.value c.requires.read.few-urns) c.if-index_urns.true

pub returns : goal.returns
unfolding refusal_number
returns c = let t = c.args.t.now in let name-at = c.args.name_at.now in let name-len = c.args.name_len.now in let at = c.args.at.now in
    let len = c.args.len.now in let signal = c.args.signal.now in let l = c.args.l in
    let d = distinct-in _ _ _ _ c.names_distinct.ensures c.requires.read.few-categories in elim c.else-names_distinct.branch [
      | else-names_distinct-via-then-names_distinct+then-index_urns+else-all_used w ↦ sym (names-unused t name-at name-len at len signal l c.requires
          (indexed-in _ _ _ _ _ _ _ c.requires.read.few-categories (w.index_urns.ensures.indexed (
            c.requires.short,
            c.requires.read.few-categories,
            c.requires.read.few-urns,
            refl,
          ) w.if-index_urns.true)) d w.if-names_distinct.true (used-in _ _ _ w.all_used.ensures c.requires.read.few-urns) w.if-all_used.false)
      | else-names_distinct-via-then-names_distinct+else-index_urns w ↦ sym (urns-strange t name-at name-len at len signal l c.requires
          (listed_in _ _ _ _ _ _ _ c.requires.read.few-categories w.index_urns.ensures.value c.requires.read.few-urns) w.if-index_urns.false)
      | else-names_distinct-via-else-names_distinct w ↦ sym (names-twice t name-at name-len at len signal l c.requires d w.if-names_distinct.false)
    ]
